-- Reads policies (RFC 9061 section 5.3).
use Rattle.std.specs.Prelude.{ℕ, List, [], ◌∷◌, codes, Option, Some, None, Result, Ok, Err, ⊤}
use Rattle.serde_json.specs.Data.{Data}
use Rattle.serde_json.specs.Find.{get, as_array}
use Rattle.ikeless_tree.specs.declared.entry.Action.{Action}
use Rattle.ikeless_tree.specs.declared.entry.Action.TheVariants as actions
use Rattle.ikeless_tree.specs.declared.entry.SpdEntry.{SpdEntry}
use Rattle.ikeless_tree.specs.Check.{is_spd_name, spd_fault}
use Rattle.json_values.specs.declared.fault.Kind.TheVariants as kinds
use Rattle.json_values.specs.declared.fault.Fault.{Fault}
use Rattle.json_tree.specs.declared.policy_read.PolicyConfig.{PolicyConfig}
use Rattle.json_values.specs.Faults.{here, within, at_member, checked, ◌>>=◌}
use Rattle.json_values.specs.Shapes.{only_in, items_read, one_read}
use Rattle.json_values.specs.Leaves.{number_or, wide_or, direction_leaf, action_leaf, fixed_word, unset_leaf, name_in}
use Rattle.json_values.specs.Members.{suite_shape, processing_shape, policy_shape, spd_entry_shape}
use Rattle.json_tree.specs.SelectorRead.{selector_of}

-- a member that is false, as an absent one is
abbrev pub unset_in : List ℕ → Data → Result ⊤ Fault
unset_in name d = at_member name (unset_leaf (get name d))

-- a member that has one word, as an absent one has
abbrev pub word_in : List ℕ → List ℕ → Data → Result ⊤ Fault
word_in name word d = at_member name (fixed_word word (get name d))

-- an absent window has the size 64
abbrev pub window_in : Data → Result ℕ Fault
window_in d = at_member (codes "anti-replay-window-size") (number_or 64 32 4096 (get (codes "anti-replay-window-size") d))

-- an absent `reqid` is 0
abbrev pub reqid_in : Data → Result ℕ Fault
reqid_in d = at_member (codes "reqid") (wide_or 0 (get (codes "reqid") d))

-- the first three members of `ipsec-sa-cfg`, in the order of their names: what is asked for is supported
unfoldable pub suite_front : Data → Result ⊤ Fault
suite_front d =
    unset_in (codes "ext-seq-num") d >>= (λ a.
    word_in (codes "mode") (codes "tunnel") d >>= (λ b.
    unset_in (codes "pfp-flag") d))

-- the last three members of `ipsec-sa-cfg`
unfoldable pub suite_back : Data → Result ⊤ Fault
suite_back d =
    word_in (codes "protocol-parameters") (codes "esp") d >>= (λ a.
    unset_in (codes "seq-overflow") d >>= (λ b.
    unset_in (codes "stateful-frag-check") d))

-- `ipsec-sa-cfg` of a policy says no more than that it is ESP in tunnel mode
unfoldable pub suite_in : Data → Result ⊤ Fault
suite_in d = suite_shape d >>= (λ a. suite_front d >>= (λ b. suite_back d))

-- the same of a member that may be absent
abbrev pub suite_of : Option Data → Result ⊤ Fault
suite_of None = Ok tt
suite_of (Some d) = within (codes "ipsec-sa-cfg") (suite_in d)

-- the action of `processing-info`
unfoldable pub processing_in : Data → Result Action Fault
processing_in d =
    processing_shape d >>= (λ done.
    at_member (codes "action") (action_leaf (get (codes "action") d)) >>= (λ action.
    suite_of (get (codes "ipsec-sa-cfg") d) >>= (λ suite. Ok action)))

-- a packet of a policy that says nothing is discarded
abbrev pub processing_of : Option Data → Result Action Fault
processing_of None = Ok actions.Discard
processing_of (Some d) = within (codes "processing-info") (processing_in d)

-- the window, the action and the selector of `ipsec-policy-config`
unfoldable pub policy_in : Data → Result PolicyConfig Fault
policy_in d =
    policy_shape d >>= (λ done.
    window_in d >>= (λ window.
    processing_of (get (codes "processing-info") d) >>= (λ action.
    selector_of (get (codes "traffic-selector") d) >>= (λ selector.
    Ok (record { window = window; action = action; selector = selector })))))

-- the same of a member that is needed
abbrev pub policy_of : Option Data → Result PolicyConfig Fault
policy_of None = Err (here kinds.Missing)
policy_of (Some d) = within (codes "ipsec-policy-config") (policy_in d)

-- the policy of a `spd-entry`; the first fault is found in the order of members
unfoldable pub spd_entry_in : Data → Result SpdEntry Fault
spd_entry_in d =
    spd_entry_shape d >>= (λ done.
    at_member (codes "direction") (direction_leaf (get (codes "direction") d)) >>= (λ direction.
    policy_of (get (codes "ipsec-policy-config") d) >>= (λ policy.
    name_in (codes "name") is_spd_name d >>= (λ name.
    reqid_in d >>= (λ reqid.
    Ok (record {
      name = name;
      direction = direction;
      reqid = reqid;
      window = policy.window;
      selector = policy.selector;
      action =
          policy.action;
    }))))))

-- the list of all policies
abbrev pub entries_in : Data → Result (List SpdEntry) Fault
entries_in d = items_read spd_entry_in (as_array d)

-- the policies of a member that is needed
abbrev pub entries_of : Option Data → Result (List SpdEntry) Fault
entries_of None = Err (here kinds.Missing)
entries_of (Some d) = within (codes "spd-entry") (entries_in d)

-- the policies of the container `spd`
unfoldable pub database_in : Data → Result (List SpdEntry) Fault
database_in d = only_in (codes "spd-entry") d >>= (λ list. within (codes "spd-entry") (entries_in list))

-- the policies of a body, before they are looked at as a list
unfoldable pub all_entries : Data → Result (List SpdEntry) Fault
all_entries d = only_in (codes "ietf-i2nsf-ikeless:spd") d >>= (λ inner. within (codes "ietf-i2nsf-ikeless:spd") (database_in inner))

-- the body that has all policies; what is wrong with the list as a whole comes last
unfoldable pub spd_in : Data → Result (List SpdEntry) Fault
spd_in d = all_entries d >>= (λ list. checked list (spd_fault list))

-- the one policy of a body, before it is looked at as a list of one
unfoldable pub one_entry : Data → Result SpdEntry Fault
one_entry d = only_in (codes "ietf-i2nsf-ikeless:spd-entry") d >>= (λ list. within (codes "ietf-i2nsf-ikeless:spd-entry")
    (one_read spd_entry_in (as_array list)))

-- the body that has one policy
unfoldable pub one_spd_entry_in : Data → Result SpdEntry Fault
one_spd_entry_in d = one_entry d >>= (λ e. checked e (spd_fault (e ∷ [])))
