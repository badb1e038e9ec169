-- The words of enumerations: for each a table of all its values, the word of each, and the value of a word. The error tags are
-- those of RESTCONF (RFC 8040 section 7), `inbound` and `outbound` those of YANG (RFC 9061 section 5.3), the others this
-- project's own.
use Rattle.std.specs.Prelude.{ℕ, Bool, true, false, List, [], ◌∷◌, codes, find, Option}
use Rattle.std.specs.Str.{bytes_eq}
use Rattle.ikeless_tree.specs.declared.error.Tag.{Tag}
use Rattle.ikeless_tree.specs.declared.error.Tag.TheVariants as tags
use Rattle.ikeless_tree.specs.declared.command.Refusal.{Refusal}
use Rattle.ikeless_tree.specs.declared.command.Refusal.TheVariants as refusals
use Rattle.ikeless_tree.specs.declared.error.App.{App}
use Rattle.ikeless_tree.specs.declared.error.App.TheVariants as apps
use Rattle.ikeless_tree.specs.declared.drops.DropWhy.{DropWhy}
use Rattle.ikeless_tree.specs.declared.drops.DropWhy.TheVariants as drops
use Rattle.ikeless_tree.specs.declared.ends.GoneWhy.{GoneWhy}
use Rattle.ikeless_tree.specs.declared.ends.GoneWhy.TheVariants as ends
use Rattle.ikeless_tree.specs.declared.entry.Action.{Action}
use Rattle.ikeless_tree.specs.declared.entry.Action.TheVariants as actions
use Rattle.ikeless_tree.specs.declared.entry.Direction.{Direction}
use Rattle.ikeless_tree.specs.declared.entry.Direction.TheVariants as directions
use Rattle.ikeless_tree.specs.declared.sad.Df.{Df}
use Rattle.ikeless_tree.specs.declared.sad.Df.TheVariants as bits
use Rattle.ikeless_tree.specs.declared.order.Lane.{Lane}
use Rattle.ikeless_tree.specs.declared.order.Lane.TheVariants as lanes

-- an error tag (RFC 8040 section 7)
abbrev pub all_tags : List Tag
all_tags =
    tags.MalformedMessage ∷ tags.OperationNotSupported ∷ tags.TooBig ∷ tags.InvalidValue ∷ tags.UnknownElement
    ∷ tags.BadElement ∷ tags.ResourceDenied ∷ []

-- the word of an error tag, as RFC 8040 section 7 spells it
abbrev pub tag_text : Tag → List ℕ
tag_text tags.MalformedMessage = codes "malformed-message"
tag_text tags.OperationNotSupported = codes "operation-not-supported"
tag_text tags.TooBig = codes "too-big"
tag_text tags.InvalidValue = codes "invalid-value"
tag_text tags.UnknownElement = codes "unknown-element"
tag_text tags.BadElement = codes "bad-element"
tag_text tags.ResourceDenied = codes "resource-denied"

-- the value of this word
unfoldable pub tag_of : List ℕ → Option Tag
tag_of text = find (λ x. bytes_eq (tag_text x) text) all_tags

-- why a command is refused
abbrev pub all_refusals : List Refusal
all_refusals =
    refusals.UnknownGateway ∷ refusals.SameGateway ∷ refusals.TunnelExists ∷ refusals.NoTunnel ∷ refusals.TunnelLimit
    ∷ refusals.KeySeen ∷ refusals.KeyLength ∷ refusals.KeyLimit ∷ []

-- the word of the reason why a command is refused, as transcripts and error-app-tag have it
abbrev pub refusal_text : Refusal → List ℕ
refusal_text refusals.UnknownGateway = codes "unknown-gateway"
refusal_text refusals.SameGateway = codes "same-gateway"
refusal_text refusals.TunnelExists = codes "tunnel-exists"
refusal_text refusals.NoTunnel = codes "no-tunnel"
refusal_text refusals.TunnelLimit = codes "tunnel-limit"
refusal_text refusals.KeySeen = codes "key-seen"
refusal_text refusals.KeyLength = codes "key-length"
refusal_text refusals.KeyLimit = codes "key-limit"

-- the value of this word
unfoldable pub refusal_of : List ℕ → Option Refusal
refusal_of text = find (λ x. bytes_eq (refusal_text x) text) all_refusals

-- which fault it was; a refused command by the word of its refusal
abbrev pub all_apps : List App
all_apps =
    apps.Form ∷ apps.Chunked ∷ apps.Size ∷ apps.Path ∷ apps.Method ∷ apps.Query ∷ apps.Json ∷ apps.Unknown
    ∷ apps.Missing ∷ apps.Range ∷ apps.Unsupported ∷ apps.Name ∷ apps.Full ∷ apps.Exists ∷ apps.SpiTaken
    ∷ apps.Absent ∷ apps.Point ∷ apps.Refused refusals.UnknownGateway ∷ apps.Refused refusals.SameGateway
    ∷ apps.Refused refusals.TunnelExists ∷ apps.Refused refusals.NoTunnel ∷ apps.Refused refusals.TunnelLimit
    ∷ apps.Refused refusals.KeySeen ∷ apps.Refused refusals.KeyLength ∷ apps.Refused refusals.KeyLimit ∷ []

-- the word of a fault, as error-app-tag has it (RFC 8040 section 7.1)
abbrev pub app_text : App → List ℕ
app_text apps.Form = codes "form"
app_text apps.Chunked = codes "chunked"
app_text apps.Size = codes "size"
app_text apps.Path = codes "path"
app_text apps.Method = codes "method"
app_text apps.Query = codes "query"
app_text apps.Json = codes "json"
app_text apps.Unknown = codes "unknown"
app_text apps.Missing = codes "missing"
app_text apps.Range = codes "range"
app_text apps.Unsupported = codes "unsupported"
app_text apps.Name = codes "name"
app_text apps.Full = codes "full"
app_text apps.Exists = codes "exists"
app_text apps.SpiTaken = codes "spi-taken"
app_text apps.Absent = codes "absent"
app_text apps.Point = codes "point"
app_text (apps.Refused why) = refusal_text why

-- the value of this word
unfoldable pub app_of : List ℕ → Option App
app_of text = find (λ x. bytes_eq (app_text x) text) all_apps

-- why a packet or a datagram is dropped
abbrev pub all_drops : List DropWhy
all_drops =
    drops.Malformed ∷ drops.Fragment ∷ drops.TooLong ∷ drops.NoPolicy ∷ drops.Discard ∷ drops.ClearRefused
    ∷ drops.NoSa ∷ drops.SeqLimit ∷ drops.Short ∷ drops.BadSpi ∷ drops.Zero ∷ drops.Old ∷ drops.Seen ∷ drops.Auth
    ∷ drops.Padding ∷ drops.Dummy ∷ drops.Inner ∷ drops.Selector ∷ []

-- the word of the reason for a drop, as a transcript has it
abbrev pub drop_text : DropWhy → List ℕ
drop_text drops.Malformed = codes "malformed"
drop_text drops.Fragment = codes "fragment"
drop_text drops.TooLong = codes "too-long"
drop_text drops.NoPolicy = codes "no-policy"
drop_text drops.Discard = codes "discard"
drop_text drops.ClearRefused = codes "clear-refused"
drop_text drops.NoSa = codes "no-sa"
drop_text drops.SeqLimit = codes "seq-limit"
drop_text drops.Short = codes "short"
drop_text drops.BadSpi = codes "bad-spi"
drop_text drops.Zero = codes "zero"
drop_text drops.Old = codes "old"
drop_text drops.Seen = codes "seen"
drop_text drops.Auth = codes "auth"
drop_text drops.Padding = codes "padding"
drop_text drops.Dummy = codes "dummy"
drop_text drops.Inner = codes "inner"
drop_text drops.Selector = codes "selector"

-- the value of this word
unfoldable pub drop_of : List ℕ → Option DropWhy
drop_of text = find (λ x. bytes_eq (drop_text x) text) all_drops

-- why a half is gone
abbrev pub all_ends : List GoneWhy
all_ends =
    ends.Removed ∷ ends.Hard ∷ []

-- the word of the reason why a half is gone, as a transcript has it
abbrev pub gone_text : GoneWhy → List ℕ
gone_text ends.Removed = codes "removed"
gone_text ends.Hard = codes "hard"

-- the value of this word
unfoldable pub gone_of : List ℕ → Option GoneWhy
gone_of text = find (λ x. bytes_eq (gone_text x) text) all_ends

-- what is done with a packet: the word of RFC 9061 section 5.3, and of a line
abbrev pub all_actions : List Action
all_actions =
    actions.Protect ∷ actions.Bypass ∷ actions.Discard ∷ []

-- the word of a policy's action
abbrev pub action_text : Action → List ℕ
action_text actions.Protect = codes "protect"
action_text actions.Bypass = codes "bypass"
action_text actions.Discard = codes "discard"

-- the value of this word
unfoldable pub action_of : List ℕ → Option Action
action_of text = find (λ x. bytes_eq (action_text x) text) all_actions

-- which way a packet goes, as a line has it
abbrev pub all_directions : List Direction
all_directions =
    directions.In ∷ directions.Out ∷ []

-- the word of a direction in a line: from inside is `out`, from outside `in`
abbrev pub direction_text : Direction → List ℕ
direction_text directions.In = codes "in"
direction_text directions.Out = codes "out"

-- the value of this word
unfoldable pub direction_of : List ℕ → Option Direction
direction_of text = find (λ x. bytes_eq (direction_text x) text) all_directions

-- the same in YANG (RFC 9061 section 5.3)
abbrev pub direction_word : Direction → List ℕ
direction_word directions.In = codes "inbound"
direction_word directions.Out = codes "outbound"

-- which direction of a policy `inbound` and `outbound` say
unfoldable pub direction_of_word : List ℕ → Option Direction
direction_of_word text = find (λ x. bytes_eq (direction_word x) text) all_directions

-- where the outer DF bit comes from: the word of RFC 9061 section 5.3, and of a line
abbrev pub all_dfs : List Df
all_dfs =
    bits.Clear ∷ bits.Set ∷ bits.Copy ∷ []

-- the word of the rule for the outer DF bit
abbrev pub df_text : Df → List ℕ
df_text bits.Clear = codes "clear"
df_text bits.Set = codes "set"
df_text bits.Copy = codes "copy"

-- the value of this word
unfoldable pub df_of : List ℕ → Option Df
df_of text = find (λ x. bytes_eq (df_text x) text) all_dfs

-- a way of octets between a gateway and its controller
abbrev pub all_lanes : List Lane
all_lanes =
    lanes.Down ∷ lanes.Up ∷ lanes.Note ∷ []

-- the word of a lane: requests go down, answers up, notices have their own
abbrev pub lane_text : Lane → List ℕ
lane_text lanes.Down = codes "down"
lane_text lanes.Up = codes "up"
lane_text lanes.Note = codes "note"

-- the value of this word
unfoldable pub lane_of : List ℕ → Option Lane
lane_of text = find (λ x. bytes_eq (lane_text x) text) all_lanes

-- whether keys are asked for at once, or at the first packet
abbrev pub mode_text : Bool → List ℕ
mode_text true = codes "now"
mode_text false = codes "acquire"

-- the value of this word
unfoldable pub mode_of : List ℕ → Option Bool
mode_of text = find (λ x. bytes_eq (mode_text x) text) (true ∷ false ∷ [])

-- whether a limit that was met is a soft one
abbrev pub softness_text : Bool → List ℕ
softness_text true = codes "soft"
softness_text false = codes "hard"

-- the value of this word
unfoldable pub softness_of : List ℕ → Option Bool
softness_of text = find (λ x. bytes_eq (softness_text x) text) (true ∷ false ∷ [])
