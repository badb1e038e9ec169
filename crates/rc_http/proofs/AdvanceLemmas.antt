-- One piece more of a message.
use Rattle.std.proofs.Common.{◌≡◌, ◌≢◌, ℕ, ◌+◌, ◌-◌, ◌<◌, ◌≤◌, List, [], ◌++◌, length, take, drop, nat_le, true, false, Some, Ok, Err, refl, sym, ap, ◌∙◌, arith, subst, inl, inr, length-append, length-drop, append_assoc, option_map}
use Rattle.std.proofs.lemmas.List.{take-append-le, take-append-drop, take_all, length-take-le}
use Rattle.rc_http.specs.declared.message.HttpFault.{HttpFault}
use Rattle.rc_http.specs.declared.message.HttpFault.TheVariants as faults
use Rattle.rc_http.specs.declared.message.HttpMessage.{HttpMessage}
use Rattle.rc_http.specs.declared.message.Kind.{Kind}
use Rattle.rc_http.specs.declared.place.Place.{Place}
use Rattle.rc_http.specs.declared.place.Place.TheVariants.{Before}
use Rattle.rc_http.specs.HeadEnd.{head_len}
use Rattle.rc_http.specs.Heads.{Head, Reads, body_len, message_of}
use Rattle.rc_http.specs.Looks.{Waits, Fails, Gives, Looks, LooksAfter, with_body}
use Rattle.rc_http.specs.Parts.{LengthIs}
use Rattle.rc_http.specs.Places.{place_after, len_from}
use Rattle.rc_http.specs.Stages.{IsHeadStage, IsBodyStage, IsEndStage}
use Rattle.rc_http.proofs.EndLemmas.{head_kept, head_later, head_open}
use Rattle.rc_http.proofs.LookLemmas.{looks_after, looks_late, looks_long, looks_open, looks_kept, reads_unique, le_true, le_false}
use Rattle.rc_http.proofs.PlaceLemmas.{place_append, len_front, len_kept}
use Rattle.rc_http.proofs.ValueLemmas.{len_small}

-- ---- the head

module _ (kind : Kind) (kept piece : List ℕ) (p : Place) (stage : IsHeadStage kept p) where
  goes : (q : Place) → place_after (Some p) piece ≡ Some q → place_after (Some Before) (kept ++ piece) ≡ Some q
  goes q e = place_append (Some Before) kept piece ∙ ap (λ o. place_after o piece) stage.place_is ∙ e

  pub goes_long : (q : Place) → place_after (Some p) piece ≡ Some q → 8192 ≤ length kept + length piece
      → Looks kind (kept ++ piece) (Fails faults.TooBig)
  goes_long q e long =
      looks_long kind (kept ++ piece) (head_open q (kept ++ piece) (goes q e)) (omega (arith, long, length-append kept piece))

  pub goes_on : (q : Place) (after : List ℕ) → place_after (Some p) piece ≡ Some q → length kept + length piece < 8192
      → after ≡ kept ++ piece → (after ≡ kept ++ piece) × IsHeadStage after q × Looks kind (kept ++ piece) Waits
  goes_on q after e short is =
      let fits : length (kept ++ piece) < 8192 = omega (arith, short, length-append kept piece) in (
        is,
        record { place_is = ap (place_after (Some Before)) is ∙ goes q e; short = omega (arith, ap length is, fits) },
        looks_open kind (kept ++ piece) (head_open q (kept ++ piece) (goes q e)) fits,
      )

  pub ends_late : (end : ℕ) → len_from (Some p) piece ≡ Some end → 8192 < length kept + end
      → Looks kind (kept ++ piece) (Fails faults.TooBig)
  ends_late end e late =
      let is = head_later p kept piece stage.place_is ∙ ap (option_map (λ k. length kept + k)) e in
      looks_late kind (kept ++ piece) (length kept + end) is late

  pub ends_at : (end : ℕ) → len_from (Some p) piece ≡ Some end → length kept + end ≤ 8192 → IsEndStage kept end piece
  ends_at end e fits = record {
    head_is = head_later p kept (take end piece) stage.place_is
        ∙ ap (option_map (λ k. length kept + k)) (len_front (Some p) end piece e);
    short = fits;
    within = (len_kept (Some p) end piece [] e).1;
  }

-- ---- the end of the head

module _ (kind : Kind) (kept piece after : List ℕ) (end : ℕ) (stage : IsEndStage kept end piece) (is : after ≡ kept ++ take end piece) where
  pub end_len : length after ≡ length kept + end
  end_len = omega (arith, ap length is, length-append kept (take end piece), length-take-le end piece stage.within)

  end_head : head_len after ≡ Some (length after)
  end_head = ap head_len is ∙ stage.head_is ∙ ap Some (sym end_len)

  end_all : take (length after) after ≡ after
  end_all = take_all (length after) after (omega arith)

  end_fits : length after ≤ 8192
  end_fits = omega (arith, end_len, stage.short)

  end_whole : after ++ drop end piece ≡ kept ++ piece
  end_whole = ap (λ l. l ++ drop end piece) is ∙ append_assoc kept (take end piece) (drop end piece)
      ∙ ap (λ l. kept ++ l) (take-append-drop end piece)

  fault_after : (fault : HttpFault) → LengthIs kind after (Err fault) → LooksAfter kind after (length after) (Fails fault)
  fault_after fault (inl x) = inl (
    x.0,
    subst (λ l. Reads kind l x.0) (sym end_all) x.1,
    ap (with_body after (length after) x.0) x.2,
  )
  fault_after fault (inr x) =
      let same : fault ≡ faults.Head = cc (x.1) in
      inr ((λ h r. x.0 h (subst (λ l. Reads kind l h) end_all r)), ap Fails same)

  pub end_fault : (fault : HttpFault) → LengthIs kind after (Err fault) → Looks kind (kept ++ piece) (Fails fault)
  end_fault fault x =
      let other : Fails fault ≢ Waits = λ e. cc in
      subst (λ l. Looks kind l (Fails fault)) end_whole
      (looks_kept kind after (drop end piece) (Fails fault) other
      (looks_after kind after (Fails fault) (length after) end_head end_fits (fault_after fault x)))

  body_of : (len : ℕ) → LengthIs kind after (Ok len) → (h : Head) × Reads kind after h × (body_len kind h ≡ Ok len)
  body_of len (inl x) = (x.0, x.1, sym x.2)
  body_of len (inr x) = cc (x.1)

  pub end_small : (len : ℕ) → LengthIs kind after (Ok len) → len ≤ 16777216
  end_small len x = let b = body_of len x in len_small kind b.0.minor b.0.fields len b.2

  pub end_body : (n len : ℕ) → n ≡ length after → LengthIs kind after (Ok len) → IsBodyStage kind after n (n + len)
  end_body n len n-is x = let b = body_of len x in record {
    head_is = end_head ∙ ap Some (sym n-is);
    short = omega (arith, n-is, end_fits);
    reads = (b.0, len, subst (λ l. Reads kind l b.0) (sym (take_all n after (omega (arith, n-is)))) b.1, b.2, refl);
    fits = omega (arith, n-is, end_fits, end_small len x);
    part = omega (arith, n-is);
  }

-- ---- the body

looks_part : (kind : Kind) (xs : List ℕ) (n whole : ℕ) → IsBodyStage kind xs n whole → length xs < whole → Looks kind xs Waits
looks_part kind xs n whole stage short =
    let h = stage.reads.0 in
    let len = stage.reads.1 in
    let test : nat_le (n + len) (length xs) ≡ false = le_false (n + len) (length xs) (omega (arith, short, stage.reads.4)) in
    let is : with_body xs n h (body_len kind h) ≡ Waits = rw (stage.reads.3, test) refl in
    looks_after kind xs Waits n stage.head_is stage.short (inl (h, stage.reads.2, sym is))

looks_whole : (kind : Kind) (xs : List ℕ) (n whole : ℕ) → IsBodyStage kind xs n whole → length xs ≡ whole
    → (front body : List ℕ) (m : HttpMessage) → front ≡ take n xs → body ≡ drop n xs
    → (h : Head) × Reads kind front h × (m ≡ message_of h body) → Looks kind xs (Gives m whole)
looks_whole kind xs n whole stage long front body m f b x =
    let h = stage.reads.0 in
    let len = stage.reads.1 in
    let test : nat_le (n + len) (length xs) ≡ true = le_true (n + len) (length xs) (omega (arith, long, stage.reads.4)) in
    let all : take len (drop n xs) ≡ drop n xs = take_all len (drop n xs) (omega (arith, long, stage.reads.4, length-drop n xs)) in
    let same : x.0 ≡ h = reads_unique kind (take n xs) x.0 h (subst (λ l. Reads kind l x.0) f x.1) stage.reads.2 in
    let m-is : m ≡ message_of h (take len (drop n xs)) = x.2 ∙ ap (λ k. message_of k body) same ∙ ap (message_of h) (b ∙ sym all) in
    let is : with_body xs n h (body_len kind h) ≡ Gives (message_of h (take len (drop n xs))) (n + len) = rw (stage.reads.3, test) refl in
    let gives : Gives m whole ≡ Gives (message_of h (take len (drop n xs))) (n + len) = cc (m-is, stage.reads.4) in
    looks_after kind xs (Gives m whole) n stage.head_is stage.short (inl (h, stage.reads.2, gives ∙ sym is))

module _ (kind : Kind) (kept : List ℕ) (n whole : ℕ) (stage : IsBodyStage kind kept n whole) where
  -- what was known of the octets is known of more of them
  more_body : (more : List ℕ) → length kept + length more ≤ whole → IsBodyStage kind (kept ++ more) n whole
  more_body more fits =
      let k = head_kept n kept more stage.head_is in
      let h = stage.reads.0 in
      record {
        head_is = k.0;
        short = stage.short;
        reads = (
          h,
          stage.reads.1,
          subst (λ l. Reads kind l h) (sym (take-append-le n kept more k.1)) stage.reads.2,
          stage.reads.3,
          stage.reads.4,
        );
        fits = stage.fits;
        part = omega (arith, fits, length-append kept more);
      }

  pub body_waits : (piece after : List ℕ) → length kept + length piece < whole → after ≡ kept ++ piece
      → (after ≡ kept ++ piece) × (IsBodyStage kind after n whole × (length after < whole)) × Looks kind (kept ++ piece) Waits
  body_waits piece after short is =
      let fits : length (kept ++ piece) < whole = omega (arith, short, length-append kept piece) in
      let stage' = more_body piece (omega (arith, short)) in (
        is,
        (subst (λ l. IsBodyStage kind l n whole) (sym is) stage', omega (arith, ap length is, fits)),
        looks_part kind (kept ++ piece) n whole stage' fits,
      )

  pub body_whole : (piece after front body : List ℕ) (wanted : ℕ) (m : HttpMessage) → wanted ≡ whole - length kept
      → wanted ≤ length piece → after ≡ kept ++ take wanted piece → front ≡ take n after → body ≡ drop n after
      → (h : Head) × Reads kind front h × (m ≡ message_of h body)
      → (wanted ≤ length piece) × Looks kind (kept ++ piece) (Gives m (length kept + wanted))
  body_whole piece after front body wanted m w le is f b x =
      let taken : length (take wanted piece) ≡ wanted = length-take-le wanted piece le in
      let stage' = more_body (take wanted piece) (omega (arith, w, stage.part, taken)) in
      let long : length (kept ++ take wanted piece) ≡ whole = omega (arith, w, stage.part, taken, length-append kept (take wanted piece)) in
      let gives = looks_whole kind (kept ++ take wanted piece) n whole stage' long front body m (f ∙ ap (take n) is) (b ∙ ap (drop n) is) x
      in
      let joined : (kept ++ take wanted piece) ++ drop wanted piece ≡ kept ++ piece =
      append_assoc kept (take wanted piece) (drop wanted piece) ∙ ap (λ l. kept ++ l) (take-append-drop wanted piece) in
      let other : Gives m whole ≢ Waits = λ e. cc in
      let all = looks_kept kind (kept ++ take wanted piece) (drop wanted piece) (Gives m whole) other gives in
      let len : whole ≡ length kept + wanted = omega (arith, w, stage.part) in
      (le, subst (λ k. Looks kind (kept ++ piece) (Gives m k)) len (subst (λ l. Looks kind l (Gives m whole)) joined all))

  -- the head is one, with more octets behind it
  pub body_reads : (more after front : List ℕ) → after ≡ kept ++ more → front ≡ take n after → (h : Head) × Reads kind front h
  body_reads more after front is f =
      let k = head_kept n kept more stage.head_is in
      let same : take n kept ≡ front = sym (take-append-le n kept more k.1) ∙ ap (take n) (sym is) ∙ sym f in
      (stage.reads.0, subst (λ l. Reads kind l stage.reads.0) same stage.reads.2)
