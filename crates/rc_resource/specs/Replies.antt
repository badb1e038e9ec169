-- Replies with their text.
use Rattle.std.specs.Prelude.{ℕ, List, [], Option, Some, None}
use Rattle.serde_json.specs.Written.{compact_text}
use Rattle.ikeless_tree.specs.declared.error.Tag.{Tag}
use Rattle.ikeless_tree.specs.declared.error.App.{App}
use Rattle.reply_table.specs.declared.ask.Change.{Change}
use Rattle.reply_table.specs.declared.ask.Change.TheVariants as changes
use Rattle.reply_table.specs.Reply.{Shown, Nothing, Policies, Policy, Halves, Half, Location, Nowhere, At_policy, At_half, Outcome}
use Rattle.json_values.specs.Written.{one_policy, all_policies}
use Rattle.json_tree.specs.SadEntryWritten.{all_rows, one_row}
use Rattle.rc_resource.specs.declared.reply.Reply.{Reply}
use Rattle.rc_request.specs.declared.error.RcError.{RcError}
use Rattle.rc_resource.specs.Errors.{error_data}
use Rattle.rc_request.specs.Paths.{policy_path, half_path}

-- the path of what a reply made, or no octets
abbrev pub location_text : Location → List ℕ
location_text Nowhere = []
location_text (At_policy name) = policy_path name
location_text (At_half name) = half_path name

-- what a reply shows, as JSON without white space; halves are shown without their keys
abbrev pub shown_text : Shown → List ℕ
shown_text Nothing = []
shown_text (Policies list) = compact_text (all_policies list)
shown_text (Policy entry) = compact_text (one_policy entry)
shown_text (Halves rows) = compact_text (all_rows rows)
shown_text (Half row) = compact_text (one_row row)

-- the body of a refusal, or what is shown
abbrev pub body_by : Option Tag → Option App → Shown → List ℕ
body_by (Some tag) (Some app) shown = compact_text (error_data app None tag)
body_by _ _ shown = shown_text shown

-- an outcome as a reply
abbrev pub reply_of : Outcome → Reply
reply_of o = record {
  status = o.status;
  tag = o.tag;
  names = o.names;
  location = location_text o.location;
  allow = [];
  body = body_by o.tag o.app o.shown;
  change = o.change;
}

-- the reply that refuses
abbrev pub refusal : RcError → Reply
refusal e = record {
  status = e.status;
  tag = Some e.tag;
  names = [];
  location = [];
  allow = e.allow;
  body = compact_text (error_data e.app e.path e.tag);
  change = changes.Nothing;
}

-- a refusal of what is asked of these databases
abbrev pub plain_refusal : ℕ → Tag → App → Reply
plain_refusal status tag app = refusal (record { status = status; tag = tag; app = app; path = None; allow = [] })

-- 200 with a body, 201 with a location, and 204
abbrev pub shows_reply : List (List ℕ) → List ℕ → Reply
shows_reply names body = record {
  status = 200;
  tag = None;
  names = names;
  location = [];
  allow = [];
  body = body;
  change =
      changes.Nothing;
}

-- 201 for what was made, with its path
abbrev pub made_reply : List ℕ → Change → Reply
made_reply location change = record { status = 201; tag = None; names = []; location = location; allow = []; body = []; change = change }

-- 204 for what was replaced or removed
abbrev pub done_reply : Change → Reply
done_reply change = record { status = 204; tag = None; names = []; location = []; allow = []; body = []; change = change }
