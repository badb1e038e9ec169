-- Commands that are read, and what they stand for.
use Rattle.std.proofs.Common.{◌≡◌, ℕ, ◌||◌, Bool, true, false, List, [], ◌∷◌, codes, if◌then◌else◌, Option, Some, None, Ok, refl, sym, subst, ◌∙◌}
use Rattle.std.specs.List.{list_any}
use Rattle.std.specs.Str.{bytes_eq}
use Rattle.std.proofs.lemmas.Slice.Eq.{bytes_eq-Decides}
use Rattle.serde_json.specs.Data.{Data}
use Rattle.serde_json.specs.Find.{get}
use Rattle.ikeless_tree.specs.declared.command.Command.{Command}
use Rattle.ikeless_tree.specs.declared.command.Command.TheVariants as commands
use Rattle.ikeless_tree.specs.declared.command.TunnelSpec.{TunnelSpec}
use Rattle.ikeless_tree.specs.declared.entry.SpdEntry.{SpdEntry}
use Rattle.json_codec.specs.declared.command_read.FirstEnd.{FirstEnd}
use Rattle.json_codec.specs.declared.command_read.SecondEnd.{SecondEnd}
use Rattle.json_values.specs.Shapes.{lacks}
use Rattle.ikeless_tree.specs.Words.{mode_text}
use Rattle.ikeless_tree.specs.Check.{is_gateway}
use Rattle.json_values.specs.Leaves.{needed_wide, octets_leaf, name_in}
use Rattle.json_values.specs.Members.{list_input_shape, tunnel_needs, tunnel_input_shape}
use Rattle.json_tree.specs.PolicyRead.{spd_entry_in, entries_in, entries_of}
use Rattle.json_tree.specs.SadEntryRead.{limits_of}
use Rattle.json_codec.specs.CommandRead.{is_operation, prefix_in, needed_window, needed_reqid, mode_in, list_command, first_in, second_in, tunnel_command, only_reqid, only_key, end_command, rekey_command, keys_command, input_in, inputs_in, command_fault, command_in}
use Rattle.json_values.specs.Json.{Needed, Optional, IsNumber, IsWord, IsWide, IsPrefix, IsHex, IsName, IsListOf, IsOnly, IsSpdEntry, IsLimits, no_limits, IsListInput, IsTunnelInput, IsInput, IsCommand}
use Rattle.json_values.proofs.LeafLaws.{ok_is, bind_ok, within_ok, within_of, member_ok, mode_ok, mode_back, wide_ok, wide_of, needed_number_ok, needed_number_of, needed_prefix_ok, needed_prefix_of, name_ok, name_of}
use Rattle.json_values.proofs.ShapeLaws.{shape_ok, shape_of, there, only_ok, only_of, only_kept_ok, only_kept_of, list_ok, list_of}
use Rattle.json_tree.proofs.PolicyLaws.{spd_entry_ok, spd_entry_back, checked_ok}
use Rattle.json_tree.proofs.HalfLaws.{octets_ok, octets_back, limits_of_ok, limits_of_back}

wide_leaf_ok : (n : ℕ) (leaf : Option Data) → needed_wide leaf ≡ Ok n → Needed (IsWide n) leaf
wide_leaf_ok n None h = absurd (let no : ⊥ = cc in no)
wide_leaf_ok n (Some d) h = wide_ok n d h

wide_leaf_back : (n : ℕ) (leaf : Option Data) → Needed (IsWide n) leaf → needed_wide leaf ≡ Ok n
wide_leaf_back n None h = absurd h
wide_leaf_back n (Some d) h = wide_of n d h

entries_ok : (es : List SpdEntry) (leaf : Option Data) → entries_of leaf ≡ Ok es → Needed (IsListOf IsSpdEntry es) leaf
entries_ok es None h = absurd (let no : ⊥ = cc in no)
entries_ok es (Some d) h = list_ok spd_entry_in IsSpdEntry spd_entry_ok d es (within_ok (codes "spd-entry") (entries_in d) es h)

entries_back : (es : List SpdEntry) (leaf : Option Data) → Needed (IsListOf IsSpdEntry es) leaf → entries_of leaf ≡ Ok es
entries_back es None h = absurd h
entries_back es (Some d) h = within_of (codes "spd-entry") (entries_in d) es (list_of spd_entry_in IsSpdEntry spd_entry_back d es h)

-- ---- lists

list_command_ok : (op : List ℕ) (c : Command) (d : Data) → op ≡ codes "policy" → list_command d ≡ Ok c → IsInput op c d
unfolding list_command list_input_shape
list_command_ok op c d is h =
    let a = bind_ok (list_input_shape d) _ c h in
    let b = bind_ok (name_in (codes "gateway") is_gateway d) _ c a.2 in
    let e = bind_ok (entries_of (get (codes "spd-entry") d)) _ c b.2 in
    subst (λ (x : Command). IsInput op x d) (ok_is _ c e.2) (
      is,
      record {
        members = shape_ok _ _ d a.0 a.1;
        gateway = name_ok is_gateway b.0 (get (codes "gateway") d) (member_ok (codes "gateway") _ b.0 b.1);
        list = entries_ok e.0 (get (codes "spd-entry") d) e.1;
      },
    )

list_command_back : (gateway : List ℕ) (es : List SpdEntry) (d : Data) → IsListInput gateway es d
    → list_command d ≡ Ok (commands.Policy gateway es)
unfolding list_command list_input_shape
list_command_back gateway es d h =
    let needs = codes "gateway" ∷ codes "spd-entry" ∷ [] in
    let lacking : list_any (lacks d) needs ≡ false = rw (there _ _ h.gateway, there _ _ h.list) refl in
    rw (
      shape_of needs needs d h.members lacking,
      name_of is_gateway gateway (get (codes "gateway") d) h.gateway,
      entries_back es (get (codes "spd-entry") d) h.list,
    ) refl

-- ---- tunnels

record IsFirst (f : FirstEnd) (d : Data) : Type 0 where
  window : Needed (IsNumber 32 4096 f.window) (get (codes "anti-replay-window-size") d)
  name : Needed (IsName is_gateway f.name) (get (codes "first") d)
  prefix : Needed (IsPrefix f.prefix) (get (codes "first-prefix") d)
  hard : Optional (IsLimits f.hard) (f.hard ≡ no_limits) (get (codes "hard") d)

first_ok : (f : FirstEnd) (d : Data) → first_in d ≡ Ok f → IsFirst f d
unfolding first_in
first_ok f d h =
    let a = bind_ok (needed_window d) _ f h in
    let b = bind_ok (name_in (codes "first") is_gateway d) _ f a.2 in
    let c = bind_ok (prefix_in (codes "first-prefix") d) _ f b.2 in
    let e = bind_ok (limits_of (codes "hard") (get (codes "hard") d)) _ f c.2 in
    subst (λ (x : FirstEnd). IsFirst x d) (ok_is _ f e.2) (record {
      window = needed_number_ok 32 4096 a.0 (get (codes "anti-replay-window-size") d) (member_ok (codes "anti-replay-window-size") _ a.0
          a.1);
      name = name_ok is_gateway b.0 (get (codes "first") d) (member_ok (codes "first") _ b.0 b.1);
      prefix = needed_prefix_ok c.0 (get (codes "first-prefix") d) (member_ok (codes "first-prefix") _ c.0 c.1);
      hard = limits_of_ok (codes "hard") e.0 (get (codes "hard") d) e.1;
    })

first_back : (f : FirstEnd) (d : Data) → IsFirst f d → first_in d ≡ Ok f
unfolding first_in
first_back f d h =
    rw (
      needed_number_of 32 4096 f.window (get (codes "anti-replay-window-size") d) h.window,
      name_of is_gateway f.name (get (codes "first") d) h.name,
      needed_prefix_of f.prefix (get (codes "first-prefix") d) h.prefix,
      limits_of_back (codes "hard") f.hard (get (codes "hard") d) h.hard,
    ) refl

record IsSecond (s : SecondEnd) (d : Data) : Type 0 where
  mode : Needed (IsWord (mode_text s.now)) (get (codes "mode") d)
  reqid : Needed (IsWide s.reqid) (get (codes "reqid") d)
  name : Needed (IsName is_gateway s.name) (get (codes "second") d)
  prefix : Needed (IsPrefix s.prefix) (get (codes "second-prefix") d)
  soft : Optional (IsLimits s.soft) (s.soft ≡ no_limits) (get (codes "soft") d)

second_ok : (s : SecondEnd) (d : Data) → second_in d ≡ Ok s → IsSecond s d
unfolding second_in
second_ok s d h =
    let a = bind_ok (mode_in d) _ s h in
    let b = bind_ok (needed_reqid d) _ s a.2 in
    let c = bind_ok (name_in (codes "second") is_gateway d) _ s b.2 in
    let e = bind_ok (prefix_in (codes "second-prefix") d) _ s c.2 in
    let f = bind_ok (limits_of (codes "soft") (get (codes "soft") d)) _ s e.2 in
    subst (λ (x : SecondEnd). IsSecond x d) (ok_is _ s f.2) (record {
      mode = mode_ok a.0 (get (codes "mode") d) (member_ok (codes "mode") _ a.0 a.1);
      reqid = wide_leaf_ok b.0 (get (codes "reqid") d) (member_ok (codes "reqid") _ b.0 b.1);
      name = name_ok is_gateway c.0 (get (codes "second") d) (member_ok (codes "second") _ c.0 c.1);
      prefix = needed_prefix_ok e.0 (get (codes "second-prefix") d) (member_ok (codes "second-prefix") _ e.0 e.1);
      soft = limits_of_ok (codes "soft") f.0 (get (codes "soft") d) f.1;
    })

second_back : (s : SecondEnd) (d : Data) → IsSecond s d → second_in d ≡ Ok s
unfolding second_in
second_back s d h =
    rw (
      mode_back s.now (get (codes "mode") d) h.mode,
      wide_leaf_back s.reqid (get (codes "reqid") d) h.reqid,
      name_of is_gateway s.name (get (codes "second") d) h.name,
      needed_prefix_of s.prefix (get (codes "second-prefix") d) h.prefix,
      limits_of_back (codes "soft") s.soft (get (codes "soft") d) h.soft,
    ) refl

tunnel_command_ok : (op : List ℕ) (c : Command) (d : Data) → op ≡ codes "tunnel" → tunnel_command d ≡ Ok c → IsInput op c d
unfolding tunnel_command tunnel_input_shape
tunnel_command_ok op c d is h =
    let a = bind_ok (tunnel_input_shape d) _ c h in
    let b = bind_ok (first_in d) _ c a.2 in
    let e = bind_ok (second_in d) _ c b.2 in
    let first = first_ok b.0 d b.1 in
    let second = second_ok e.0 d e.1 in
    subst (λ (x : Command). IsInput op x d) (ok_is _ c e.2) (
      is,
      record {
        members = shape_ok _ tunnel_needs d a.0 a.1;
        window = first.window;
        first = first.name;
        first_prefix = first.prefix;
        hard = first.hard;
        mode = second.mode;
        reqid = second.reqid;
        second = second.name;
        second_prefix = second.prefix;
        soft = second.soft;
      },
    )

abbrev first_of : TunnelSpec → FirstEnd
first_of t = record { window = t.window; name = t.first; prefix = t.first_prefix; hard = t.hard }

abbrev second_of : TunnelSpec → SecondEnd
second_of t = record { now = t.now; reqid = t.reqid; name = t.second; prefix = t.second_prefix; soft = t.soft }

tunnel_command_back : (t : TunnelSpec) (d : Data) → IsTunnelInput t d → tunnel_command d ≡ Ok (commands.Tunnel t)
unfolding tunnel_command tunnel_input_shape
tunnel_command_back t d h =
    let lacking : list_any (lacks d) tunnel_needs ≡ false =
    rw (
      there _ _ h.window,
      there _ _ h.first,
      there _ _ h.first_prefix,
      there _ _ h.mode,
      there _ _ h.reqid,
      there _ _ h.second,
      there _ _
          h.second_prefix,
    ) refl in
    let first = first_back (first_of t) d (record { window = h.window; name = h.first; prefix = h.first_prefix; hard = h.hard }) in
    let second = second_back (second_of t) d (record {
      mode = h.mode;
      reqid = h.reqid;
      name = h.second;
      prefix = h.second_prefix;
      soft =
          h.soft;
    }) in
    rw (shape_of (codes "hard" ∷ codes "soft" ∷ tunnel_needs) tunnel_needs d h.members lacking, first, second) refl

-- ---- numbers and keys

reqid_ok : (n : ℕ) (d : Data) → only_reqid d ≡ Ok n → IsOnly (codes "reqid") (IsWide n) d
unfolding only_reqid
reqid_ok n d h = only_kept_ok (codes "reqid") (λ e. needed_wide (Some e)) (IsWide n) n d (λ e k. wide_ok n e k) h

reqid_back : (n : ℕ) (d : Data) → IsOnly (codes "reqid") (IsWide n) d → only_reqid d ≡ Ok n
unfolding only_reqid
reqid_back n d h = only_kept_of (codes "reqid") (λ e. needed_wide (Some e)) (IsWide n) n d (λ e k. wide_of n e k) h

key_ok : (o : List ℕ) (d : Data) → only_key d ≡ Ok o → IsOnly (codes "key") (IsHex o) d
unfolding only_key
key_ok o d h = only_kept_ok (codes "key") (λ e. octets_leaf (Some e)) (IsHex o) o d (λ e k. octets_ok o e k) h

key_back : (o : List ℕ) (d : Data) → IsOnly (codes "key") (IsHex o) d → only_key d ≡ Ok o
unfolding only_key
key_back o d h = only_kept_of (codes "key") (λ e. octets_leaf (Some e)) (IsHex o) o d (λ e k. octets_back o e k) h

end_ok : (op : List ℕ) (c : Command) (d : Data) → op ≡ codes "end" → end_command d ≡ Ok c → IsInput op c d
unfolding end_command
end_ok op c d is h =
    let a = bind_ok (only_reqid d) (λ n. Ok (commands.End n)) c h in
    subst (λ (x : Command). IsInput op x d) (ok_is (commands.End a.0) c a.2) (is, reqid_ok a.0 d a.1)

rekey_ok : (op : List ℕ) (c : Command) (d : Data) → op ≡ codes "rekey" → rekey_command d ≡ Ok c → IsInput op c d
unfolding rekey_command
rekey_ok op c d is h =
    let a = bind_ok (only_reqid d) (λ n. Ok (commands.Rekey n)) c h in
    subst (λ (x : Command). IsInput op x d) (ok_is (commands.Rekey a.0) c a.2) (is, reqid_ok a.0 d a.1)

keys_ok : (op : List ℕ) (c : Command) (d : Data) → op ≡ codes "keys" → keys_command d ≡ Ok c → IsInput op c d
unfolding keys_command
keys_ok op c d is h =
    let a = bind_ok (only_key d) (λ o. Ok (commands.Keys o)) c h in
    subst (λ (x : Command). IsInput op x d) (ok_is (commands.Keys a.0) c a.2) (is, key_ok a.0 d a.1)

-- ---- operations

-- the operation is the last one where it is none of the first four
last_by : (p q r s t : Bool) → (p || q || r || s || t) ≡ true → p ≡ false → q ≡ false → r ≡ false → s ≡ false → t ≡ true
last_by p q r s t h a b c e = let k : (p || q || r || s || t) ≡ t = rw (a, b, c, e) refl in sym k ∙ h

input_by : (op : List ℕ) (c : Command) (d : Data) (p q r s : Bool) → is_operation op ≡ true →
    bytes_eq op (codes "policy") ≡ p → bytes_eq op (codes "tunnel") ≡ q → bytes_eq op (codes "end") ≡ r → bytes_eq op (codes "rekey") ≡ s →
    (if p then list_command d else if q then tunnel_command d else if r then end_command d else if s then rekey_command d
    else keys_command d) ≡ Ok c → IsInput op c d
input_by op c d true q r s lawful a b e f h = list_command_ok op c d ((bytes_eq-Decides op (codes "policy")).0 a) h
input_by op c d false true r s lawful a b e f h = tunnel_command_ok op c d ((bytes_eq-Decides op (codes "tunnel")).0 b) h
input_by op c d false false true s lawful a b e f h = end_ok op c d ((bytes_eq-Decides op (codes "end")).0 e) h
input_by op c d false false false true lawful a b e f h = rekey_ok op c d ((bytes_eq-Decides op (codes "rekey")).0 f) h
input_by op c d false false false false lawful a b e f h =
    keys_ok op c d ((bytes_eq-Decides op (codes "keys")).0 (last_by _ _ _ _ (bytes_eq op (codes "keys")) lawful a b e f)) h

input_ok : (op : List ℕ) (c : Command) (d : Data) → is_operation op ≡ true → input_in op d ≡ Ok c → IsInput op c d
unfolding input_in
input_ok op c d lawful h = input_by op c d _ _ _ _ lawful refl refl refl refl h

input_back : (op : List ℕ) (c : Command) (d : Data) → IsInput op c d → input_in op d ≡ Ok c
unfolding input_in end_command rekey_command keys_command
input_back op (commands.Policy gateway list) d h = rw h.0 (list_command_back gateway list d h.1)
input_back op (commands.Tunnel spec) d h = rw h.0 (tunnel_command_back spec d h.1)
input_back op (commands.End reqid) d h = rw h.0 (rw (reqid_back reqid d h.1) refl)
input_back op (commands.Rekey reqid) d h = rw h.0 (rw (reqid_back reqid d h.1) refl)
input_back op (commands.Keys key) d h = rw h.0 (rw (key_back key d h.1) refl)

pub command_ok : (op : List ℕ) (c : Command) (d : Data) → is_operation op ≡ true → command_in op d ≡ Ok c → IsCommand op c d
    × (command_fault c ≡ None)
unfolding command_in inputs_in
command_ok op c d lawful h =
    let a = bind_ok (inputs_in op d) _ c h in
    let b = checked_ok a.0 c (command_fault a.0) a.2 in
    subst (λ (x : Command). IsCommand op x d × (command_fault x ≡ None)) b.0
    (only_ok (codes "ikl-control:input") (input_in op) (IsInput op a.0) a.0 d (λ e k. input_ok op a.0 e lawful k) a.1, b.1)

pub command_back : (op : List ℕ) (c : Command) (d : Data) → IsCommand op c d → command_fault c ≡ None → command_in op d ≡ Ok c
unfolding command_in inputs_in
command_back op c d h none =
    let inputs : inputs_in op d ≡ Ok c = only_of (codes "ikl-control:input") (input_in op) (IsInput op c) c d (λ e k. input_back op c e k) h
    in
    rw (inputs, none) refl
