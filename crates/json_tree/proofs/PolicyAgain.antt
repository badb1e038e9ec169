-- What is written for policies stands for them.
use Rattle.std.proofs.Common.{◌≡◌, ℕ, ◌<◌, ◌≤◌, ◌^◌, ◌++◌, nat_le, true, List, [], ◌∷◌, codes, map, Option, Some, None, refl, arith, decimal}
use Rattle.std.specs.List.{All, AllByRecursion}
use Rattle.std.proofs.lemmas.Bool.{and_parts, not-false}
use Rattle.std.proofs.lemmas.Bool.Decides.{nat_tests}
use Rattle.std.proofs.lemmas.List.Elements.{recursion_from_All}
use Rattle.serde_json.specs.Data.{Data, string, array}
use Rattle.serde_json.specs.View.{items_of}
use Rattle.ikl_base.specs.declared.address.Prefix.{Prefix}
use Rattle.ikeless_tree.specs.declared.entry.Range.{Range}
use Rattle.ikeless_tree.specs.declared.entry.Action.{Action}
use Rattle.ikeless_tree.specs.declared.entry.Selector.{Selector}
use Rattle.ikeless_tree.specs.declared.entry.SpdEntry.{SpdEntry}
use Rattle.ikeless_tree.specs.Check.{is_spd_name, is_window, entry_fault, entries_fault, spd_fault}
use Rattle.yang_values.specs.Addresses.{IsAddress}
use Rattle.yang_values.specs.Prefixes.{prefix_text}
use Rattle.yang_values.proofs.ValueText.{number_of-decimal}
use Rattle.yang_values.proofs.AddressText.{address_again}
use Rattle.yang_values.proofs.PrefixText.{prefix_again}
use Rattle.ikeless_tree.specs.Words.{action_text}
use Rattle.json_values.specs.Written.{count, wide, word, only, range_data, range_items, proto_data, selector_data, policy_data, spd_entry_data, spd_entry_items, spd_entries_data, one_policy, all_policies}
use Rattle.json_values.specs.Json.{IsNumber, IsWide, IsPrefix, IsProtocol, Each, IsListOf, IsRange, ArePorts, IsSelector, IsProcessing, IsPolicy, IsSpdEntry, IsSpd, IsOneSpdEntry}
use Rattle.ikeless_tree.specs.Typed.{IsTypedRange, IsTypedProtocol, IsTypedSelector, IsTypedPolicy, AreTypedPolicies}
use Rattle.json_tree.proofs.Passed.{no_fault, first_none}

pub number_again : (least most n : ℕ) → least ≤ n → n ≤ most → IsNumber least most n (count n)
number_again least most n low high = (refl, low, high)

pub wide_again : (n : ℕ) → n < 2 ^ 64 → IsWide n (wide n)
wide_again n small = (decimal n, refl, number_of-decimal n _ small (omega arith))

pub prefix_text_again : (p : Prefix) → IsAddress p.addr → IsPrefix p (string (prefix_text p))
prefix_text_again p is = (prefix_text p, refl, prefix_again p is (address_again p.addr is))

range_again : (r : Range) → IsTypedRange r → IsRange r (range_data r)
range_again r typed = record {
  members = refl;
  end = number_again 0 65535 r.end (omega arith) (let small = typed.1 in omega arith);
  start = number_again 0 65535 r.start (omega arith) (let small = typed.0 in omega arith);
}

pub each_again : {A : Type 0} → (f : A → Data) (P : A → Data → Type 0) (Q : A → Type 0) → ((x : A) → Q x → P x (f x)) → (xs : List A)
    → AllByRecursion Q xs → Each P xs (items_of (map f xs))
each_again f P Q step [] all = tt
each_again f P Q step (x ∷ xs) all = (step x all.0, each_again f P Q step xs all.1)

ports_again : (rs : List Range) → All IsTypedRange rs → ArePorts rs (array (range_items rs))
ports_again rs typed =
    (range_items rs, refl, each_again range_data IsRange IsTypedRange range_again rs (recursion_from_All IsTypedRange rs typed))

proto_again : (p : Option ℕ) → IsTypedProtocol p → IsProtocol p (proto_data p)
proto_again None typed = refl
proto_again (Some n) typed = number_again 0 255 n (omega arith) (omega arith)

selector_by : (l r : Prefix) (p : Option ℕ) (lp rp : List Range) → IsAddress l.addr → IsAddress r.addr → IsTypedProtocol p
    → All IsTypedRange lp → All IsTypedRange rp →
    (let s : Selector = record { local = l; remote = r; proto = p; local_ports = lp; remote_ports = rp } in IsSelector s (selector_data s))
unfolding selector_data
selector_by l r p [] [] tl tr tp tlp trp = record {
  members = refl;
  proto = proto_again p tp;
  local_ports = refl;
  local = prefix_text_again l tl;
  remote_ports = refl;
  remote = prefix_text_again r tr;
}
selector_by l r p [] (b ∷ bs) tl tr tp tlp trp = record {
  members = refl;
  proto = proto_again p tp;
  local_ports = refl;
  local = prefix_text_again l tl;
  remote_ports = ports_again (b ∷ bs) trp;
  remote = prefix_text_again r tr;
}
selector_by l r p (a ∷ as') [] tl tr tp tlp trp = record {
  members = refl;
  proto = proto_again p tp;
  local_ports = ports_again (a ∷ as') tlp;
  local = prefix_text_again l tl;
  remote_ports = refl;
  remote = prefix_text_again r tr;
}
selector_by l r p (a ∷ as') (b ∷ bs) tl tr tp tlp trp = record {
  members = refl;
  proto = proto_again p tp;
  local_ports = ports_again (a ∷ as') tlp;
  local = prefix_text_again l tl;
  remote_ports = ports_again (b ∷ bs) trp;
  remote = prefix_text_again r tr;
}

pub selector_again : (s : Selector) → IsTypedSelector s → IsSelector s (selector_data s)
selector_again s typed = selector_by s.local s.remote s.proto s.local_ports s.remote_ports typed.local typed.remote typed.proto
    typed.local_ports typed.remote_ports

processing_again : (x : Action) → IsProcessing x (only (codes "action") (word (action_text x)))
processing_again x = record { members = refl; action = refl; suite = tt }

pub window_again : (n : ℕ) → is_window n ≡ true → IsNumber 32 4096 n (count n)
window_again n h =
    let parts = and_parts (nat_le 32 n) (nat_le n 4096) h in
    (refl, grind (arith, nat_tests, parts), grind (arith, nat_tests, parts))

policy_again : (e : SpdEntry) → IsTypedPolicy e → is_window e.window ≡ true → IsPolicy e (policy_data e)
unfolding policy_data
policy_again e typed window = record {
  members = refl;
  window = window_again e.window window;
  action = processing_again e.action;
  selector = selector_again e.selector typed.selector;
}

-- a policy by itself has no fault
record IsGood (e : SpdEntry) : Type 0 where
  typed : IsTypedPolicy e
  name : is_spd_name e.name ≡ true
  window : is_window e.window ≡ true

entry_again : (e : SpdEntry) → IsGood e → IsSpdEntry e (spd_entry_data e)
unfolding spd_entry_data
entry_again e good = record {
  members = refl;
  direction = refl;
  policy = policy_again e good.typed good.window;
  name = (refl, good.name);
  reqid = wide_again e.reqid good.typed.reqid;
}

good_entry : (before : List SpdEntry) (e : SpdEntry) → IsTypedPolicy e → entry_fault before e ≡ None → IsGood e
unfolding entry_fault
good_entry before e typed h =
    let named = no_fault _ _ _ h in
    let windowed = no_fault _ _ _ named.1 in
    record { typed = typed; name = not-false _ windowed.0; window = not-false _ (no_fault _ _ _ windowed.1).0 }

good_entries : (before es : List SpdEntry) → AllByRecursion IsTypedPolicy es → entries_fault before es ≡ None → AllByRecursion IsGood es
good_entries before [] typed h = tt
good_entries before (e ∷ es) typed h =
    let parts = first_none (entry_fault before e) (entries_fault (before ++ e ∷ []) es) h in
    (good_entry before e typed.0 parts.0, good_entries (before ++ e ∷ []) es typed.1 parts.1)

pub unfaulted : (es : List SpdEntry) → spd_fault es ≡ None → entries_fault [] es ≡ None
unfolding spd_fault
unfaulted es h = (no_fault _ _ _ h).1

good : (es : List SpdEntry) → AreTypedPolicies es → spd_fault es ≡ None → AllByRecursion IsGood es
good es typed h = good_entries [] es (recursion_from_All IsTypedPolicy es typed) (unfaulted es h)

pub entries_again : (es : List SpdEntry) → AreTypedPolicies es → spd_fault es ≡ None → IsListOf IsSpdEntry es (spd_entries_data es)
entries_again es typed h = (spd_entry_items es, refl, each_again spd_entry_data IsSpdEntry IsGood entry_again es (good es typed h))

pub all_again : (es : List SpdEntry) → AreTypedPolicies es → spd_fault es ≡ None → IsSpd es (all_policies es)
all_again es typed h = (refl, (refl, entries_again es typed h))

pub one_again : (e : SpdEntry) → IsTypedPolicy e → spd_fault (e ∷ []) ≡ None → IsOneSpdEntry e (one_policy e)
one_again e typed h = (refl, (spd_entry_data e, refl, entry_again e (good_entries [] (e ∷ []) (typed, tt) (unfaulted (e ∷ []) h)).0))
