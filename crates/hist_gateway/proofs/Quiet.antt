-- A datagram that had no answer yet makes no difference to an event.
use Rattle.std.proofs.Common.{◌≡◌, ℕ, ◌+◌, nat_lt, List, [], ◌∷◌, ◌++◌, length, Option, Some, None, Result, Ok, Err, refl, ap, if◌then◌else◌}
use Rattle.ikl_base.specs.declared.address.Addr.{Addr}
use Rattle.ip_packet.specs.declared.packet.NotPacket.{NotPacket}
use Rattle.ip_packet.specs.View.{Packet, view_of}
use Rattle.ikeless_tree.specs.declared.entry.SpdEntry.{SpdEntry}
use Rattle.ikeless_tree.specs.declared.entry.Action.{Action}
use Rattle.ikeless_tree.specs.declared.entry.Action.TheVariants as actions
use Rattle.ikeless_tree.specs.declared.entry.Direction.TheVariants.{In, Out}
use Rattle.ikeless_tree.specs.declared.drops.DropWhy.TheVariants as why
use Rattle.reply_table.specs.declared.ask.Ask.{Ask}
use Rattle.reply_table.specs.declared.ask.Change.{Change}
use Rattle.reply_table.specs.declared.ask.Change.TheVariants as changes
use Rattle.reply_table.specs.Reply.{Outcome, reply}
use Rattle.replay_win.specs.declared.verdict.Verdict.{Verdict}
use Rattle.replay_win.specs.declared.verdict.Verdict.TheVariants as verdicts
use Rattle.replay_win.specs.Marks.{judged}
use Rattle.esp_frame.specs.Esp.{keying, spi_of}
use Rattle.esp_frame.specs.Open as esp
use Rattle.spd_match.specs.Match.{first_entry}
use Rattle.sad_store.specs.declared.half.Half.{Half}
use Rattle.sad_store.specs.Halves.{half_by_spi, newest_half}
use Rattle.hist_acts.specs.declared.act.Act.{Act}
use Rattle.hist_acts.specs.declared.act.Act.TheVariants as acts
use Rattle.hist_halves.specs.Sealed.{number_from}
use Rattle.hist_gateway.specs.Arrive as arrive
use Rattle.hist_gateway.specs.Handle.{answer_of, change_acts}
use Rattle.hist_gateway.specs.Block.{Gateway, GatewayEvent, Let, Arrive, Clock, Handle, Session_taken}
use Rattle.hist_gateway.specs.State.{GatewayState, did_all, quiet}
use Rattle.hist_gateway.specs.Machine.{acts_of, in_by_half, in_by_text, in_by_verdict, in_by_view, in_esp, next, out_by_action, out_by_entry, out_by_half, out_by_view, tree_from}

out-half : (g o : List ℕ) (q : ℕ) (s : GatewayState) (v : Packet) (p : SpdEntry) (found : Option Half)
    → out_by_half g q (quiet s) o v p found ≡ out_by_half g q s o v p found
out-half g o q s v p None = refl
out-half g o q s v p (Some x) = refl

out-action : (g o : List ℕ) (q : ℕ) (s : GatewayState) (v : Packet) (p : SpdEntry) (a : Action)
    → out_by_action g q (quiet s) o v p a ≡ out_by_action g q s o v p a
out-action g o q s v p actions.Protect = out-half g o q s v p (newest_half p.reqid v s.halves)
out-action g o q s v p actions.Bypass = refl
out-action g o q s v p actions.Discard = refl

out-entry : (g o : List ℕ) (q : ℕ) (s : GatewayState) (v : Packet) (p : Option SpdEntry) → out_by_entry g q (quiet s) o v p ≡ out_by_entry g
    q s o v p
out-entry g o q s v None = refl
out-entry g o q s v (Some p) = out-action g o q s v p p.action

out-view : (g o : List ℕ) (q : ℕ) (s : GatewayState) (r : Result Packet NotPacket) → out_by_view g q (quiet s) o r ≡ out_by_view g q s o r
out-view g o q s (Err fault) = refl
out-view g o q s (Ok v) = ap (λ t. if nat_lt 65000 (length o) then acts.Drop g why.TooLong ∷ [] else t)
    (out-entry g o q s v (first_entry s.spd Out v))

in-text : (g o : List ℕ) (s : GatewayState) (x : Half) (n : ℕ) (text : Option (List ℕ)) → in_by_text g (quiet s) o x n text ≡ in_by_text g s
    o x n text
in-text g o s x n None = refl
in-text g o s x n (Some text) = refl

in-verdict : (g o b : List ℕ) (s : GatewayState) (x : Half) (n : ℕ) (v : Verdict) → in_by_verdict g (quiet s) o b x n v ≡ in_by_verdict g s
    o b x n v
in-verdict g o b s x n verdicts.Zero = refl
in-verdict g o b s x n verdicts.Old = refl
in-verdict g o b s x n verdicts.Seen = refl
in-verdict g o b s x n verdicts.Fresh = in-text g o s x n (esp.opened (keying x.entry.spi x.entry.key) b)

in-half : (g o b : List ℕ) (s : GatewayState) (found : Option Half) → in_by_half g (quiet s) o b found ≡ in_by_half g s o b found
in-half g o b s None = refl
in-half g o b s (Some x) = let n : ℕ = number_from x.entry x.window.top b in in-verdict g o b s x n (judged x.window n)

in-octets : (g o b : List ℕ) (s : GatewayState) → in_esp g (quiet s) o b ≡ in_esp g s o b
in-octets g o b s = ap (λ t. if nat_lt (length b) 34 then arrive.drops g why.Short else t)
    (in-half g o b s (half_by_spi (spi_of b) s.halves))

in-view : (g o : List ℕ) (own : Addr) (s : GatewayState) (r : Result Packet NotPacket) → in_by_view g own (quiet s) o r ≡ in_by_view g own s
    o r
in-view g o own s (Err fault) = refl
in-view g o own s (Ok v) = ap (λ t. if arrive.is_sealed_for own v then t else arrive.arrive_by_entry g o (first_entry s.spd In v) ∷ [])
    (in-octets g o v.payload s)

pub acts-quiet : (c : Gateway) (s : GatewayState) (e : GatewayEvent) → acts_of c (quiet s) e ≡ acts_of c s e
acts-quiet c s (Let o) = ap (λ t. acts.Let c.name o ∷ t) (out-view c.name o c.seq_last s (view_of o))
acts-quiet c s (Arrive o) = ap (λ t. acts.Arrived c.name o ∷ t) (in-view c.name o c.address s (view_of o))
acts-quiet c s (Clock t) = refl
acts-quiet c s (Handle (Ok ask)) = refl
acts-quiet c s (Handle (Err fault)) = refl
acts-quiet c s Session_taken = refl

done-change : (g : List ℕ) (s : GatewayState) (t k : ℕ) (r : Outcome) (change : Change) →
    did_all g (quiet s) (change_acts g r change ++ acts.Handled g t k (answer_of r) ∷ []) ≡ did_all g s (change_acts g r change
    ++ acts.Handled g t k (answer_of r) ∷ [])
done-change g s t k r changes.Nothing = refl
done-change g s t k r changes.Spd = refl
done-change g s t k r (changes.Put e) = refl
done-change g s t k r (changes.Gone name) = refl

done-quiet : (c : Gateway) (s : GatewayState) (e : GatewayEvent) → did_all c.name (quiet s) (acts_of c s e) ≡ did_all c.name s
    (acts_of c s e)
done-quiet c s (Let o) = refl
done-quiet c s (Arrive o) = refl
done-quiet c s (Clock t) = refl
done-quiet c s (Handle (Ok ask)) = done-change c.name s s.session (s.requests + 1) (reply (tree_from s) ask)
    (reply (tree_from s) ask).change
done-quiet c s (Handle (Err fault)) = refl
done-quiet c s Session_taken = refl

pub next-quiet : (c : Gateway) (s : GatewayState) (e : GatewayEvent) → next c (quiet s) e ≡ next c s e
next-quiet c s e = rw (acts-quiet c s e) (done-quiet c s e)
