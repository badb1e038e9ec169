-- Each word is read as its value, and a value that is read has that word.
use Rattle.std.proofs.Common.{◌≡◌, ℕ, Bool, true, false, List, [], ◌∷◌, Some, refl}
use Rattle.ikl_base.proofs.ReasonLemmas.{word_of-found}
use Rattle.ikeless_tree.specs.declared.error.Tag.{Tag}
use Rattle.ikeless_tree.specs.declared.error.Tag.TheVariants as tags
use Rattle.ikeless_tree.specs.declared.command.Refusal.{Refusal}
use Rattle.ikeless_tree.specs.declared.command.Refusal.TheVariants as refusals
use Rattle.ikeless_tree.specs.declared.error.App.{App}
use Rattle.ikeless_tree.specs.declared.error.App.TheVariants as apps
use Rattle.ikeless_tree.specs.declared.drops.DropWhy.{DropWhy}
use Rattle.ikeless_tree.specs.declared.drops.DropWhy.TheVariants as drops
use Rattle.ikeless_tree.specs.declared.ends.GoneWhy.{GoneWhy}
use Rattle.ikeless_tree.specs.declared.ends.GoneWhy.TheVariants as ends
use Rattle.ikeless_tree.specs.declared.entry.Action.{Action}
use Rattle.ikeless_tree.specs.declared.entry.Action.TheVariants as actions
use Rattle.ikeless_tree.specs.declared.entry.Direction.{Direction}
use Rattle.ikeless_tree.specs.declared.entry.Direction.TheVariants as directions
use Rattle.ikeless_tree.specs.declared.sad.Df.{Df}
use Rattle.ikeless_tree.specs.declared.sad.Df.TheVariants as bits
use Rattle.ikeless_tree.specs.declared.order.Lane.{Lane}
use Rattle.ikeless_tree.specs.declared.order.Lane.TheVariants as lanes
use Rattle.ikeless_tree.specs.Words.{all_tags, tag_text, tag_of, all_refusals, refusal_text, refusal_of, all_apps, app_text, app_of, all_drops, drop_text, drop_of, all_ends, gone_text, gone_of, all_actions, action_text, action_of, all_directions, direction_text, direction_of, all_dfs, df_text, df_of, all_lanes, lane_text, lane_of, direction_word, direction_of_word, mode_text, mode_of, softness_text, softness_of}

pub tag_again : (x : Tag) → tag_of (tag_text x) ≡ Some x
unfolding tag_of
tag_again tags.MalformedMessage = refl
tag_again tags.OperationNotSupported = refl
tag_again tags.TooBig = refl
tag_again tags.InvalidValue = refl
tag_again tags.UnknownElement = refl
tag_again tags.BadElement = refl
tag_again tags.ResourceDenied = refl

pub tag_is : (text : List ℕ) (x : Tag) → tag_of text ≡ Some x → text ≡ tag_text x
unfolding tag_of
tag_is text x e = word_of-found tag_text all_tags text x e

pub refusal_again : (x : Refusal) → refusal_of (refusal_text x) ≡ Some x
unfolding refusal_of
refusal_again refusals.UnknownGateway = refl
refusal_again refusals.SameGateway = refl
refusal_again refusals.TunnelExists = refl
refusal_again refusals.NoTunnel = refl
refusal_again refusals.TunnelLimit = refl
refusal_again refusals.KeySeen = refl
refusal_again refusals.KeyLength = refl
refusal_again refusals.KeyLimit = refl

pub refusal_is : (text : List ℕ) (x : Refusal) → refusal_of text ≡ Some x → text ≡ refusal_text x
unfolding refusal_of
refusal_is text x e = word_of-found refusal_text all_refusals text x e

pub app_again : (x : App) → app_of (app_text x) ≡ Some x
unfolding app_of
app_again apps.Form = refl
app_again apps.Chunked = refl
app_again apps.Size = refl
app_again apps.Path = refl
app_again apps.Method = refl
app_again apps.Query = refl
app_again apps.Json = refl
app_again apps.Unknown = refl
app_again apps.Missing = refl
app_again apps.Range = refl
app_again apps.Unsupported = refl
app_again apps.Name = refl
app_again apps.Full = refl
app_again apps.Exists = refl
app_again apps.SpiTaken = refl
app_again apps.Absent = refl
app_again apps.Point = refl
app_again (apps.Refused refusals.UnknownGateway) = refl
app_again (apps.Refused refusals.SameGateway) = refl
app_again (apps.Refused refusals.TunnelExists) = refl
app_again (apps.Refused refusals.NoTunnel) = refl
app_again (apps.Refused refusals.TunnelLimit) = refl
app_again (apps.Refused refusals.KeySeen) = refl
app_again (apps.Refused refusals.KeyLength) = refl
app_again (apps.Refused refusals.KeyLimit) = refl

pub app_is : (text : List ℕ) (x : App) → app_of text ≡ Some x → text ≡ app_text x
unfolding app_of
app_is text x e = word_of-found app_text all_apps text x e

pub drop_again : (x : DropWhy) → drop_of (drop_text x) ≡ Some x
unfolding drop_of
drop_again drops.Malformed = refl
drop_again drops.Fragment = refl
drop_again drops.TooLong = refl
drop_again drops.NoPolicy = refl
drop_again drops.Discard = refl
drop_again drops.ClearRefused = refl
drop_again drops.NoSa = refl
drop_again drops.SeqLimit = refl
drop_again drops.Short = refl
drop_again drops.BadSpi = refl
drop_again drops.Zero = refl
drop_again drops.Old = refl
drop_again drops.Seen = refl
drop_again drops.Auth = refl
drop_again drops.Padding = refl
drop_again drops.Dummy = refl
drop_again drops.Inner = refl
drop_again drops.Selector = refl

pub drop_is : (text : List ℕ) (x : DropWhy) → drop_of text ≡ Some x → text ≡ drop_text x
unfolding drop_of
drop_is text x e = word_of-found drop_text all_drops text x e

pub gone_again : (x : GoneWhy) → gone_of (gone_text x) ≡ Some x
unfolding gone_of
gone_again ends.Removed = refl
gone_again ends.Hard = refl

pub gone_is : (text : List ℕ) (x : GoneWhy) → gone_of text ≡ Some x → text ≡ gone_text x
unfolding gone_of
gone_is text x e = word_of-found gone_text all_ends text x e

pub action_again : (x : Action) → action_of (action_text x) ≡ Some x
unfolding action_of
action_again actions.Protect = refl
action_again actions.Bypass = refl
action_again actions.Discard = refl

pub action_is : (text : List ℕ) (x : Action) → action_of text ≡ Some x → text ≡ action_text x
unfolding action_of
action_is text x e = word_of-found action_text all_actions text x e

pub direction_again : (x : Direction) → direction_of (direction_text x) ≡ Some x
unfolding direction_of
direction_again directions.In = refl
direction_again directions.Out = refl

pub direction_is : (text : List ℕ) (x : Direction) → direction_of text ≡ Some x → text ≡ direction_text x
unfolding direction_of
direction_is text x e = word_of-found direction_text all_directions text x e

pub direction_word_again : (x : Direction) → direction_of_word (direction_word x) ≡ Some x
unfolding direction_of_word
direction_word_again directions.In = refl
direction_word_again directions.Out = refl

pub direction_word_is : (text : List ℕ) (x : Direction) → direction_of_word text ≡ Some x → text ≡ direction_word x
unfolding direction_of_word
direction_word_is text x e = word_of-found direction_word all_directions text x e

pub df_again : (x : Df) → df_of (df_text x) ≡ Some x
unfolding df_of
df_again bits.Clear = refl
df_again bits.Set = refl
df_again bits.Copy = refl

pub df_is : (text : List ℕ) (x : Df) → df_of text ≡ Some x → text ≡ df_text x
unfolding df_of
df_is text x e = word_of-found df_text all_dfs text x e

pub lane_again : (x : Lane) → lane_of (lane_text x) ≡ Some x
unfolding lane_of
lane_again lanes.Down = refl
lane_again lanes.Up = refl
lane_again lanes.Note = refl

pub lane_is : (text : List ℕ) (x : Lane) → lane_of text ≡ Some x → text ≡ lane_text x
unfolding lane_of
lane_is text x e = word_of-found lane_text all_lanes text x e

pub mode_again : (x : Bool) → mode_of (mode_text x) ≡ Some x
unfolding mode_of
mode_again true = refl
mode_again false = refl

pub mode_is : (text : List ℕ) (x : Bool) → mode_of text ≡ Some x → text ≡ mode_text x
unfolding mode_of
mode_is text x e = word_of-found mode_text (true ∷ false ∷ []) text x e

pub softness_again : (x : Bool) → softness_of (softness_text x) ≡ Some x
unfolding softness_of
softness_again true = refl
softness_again false = refl

pub softness_is : (text : List ℕ) (x : Bool) → softness_of text ≡ Some x → text ≡ softness_text x
unfolding softness_of
softness_is text x e = word_of-found softness_text (true ∷ false ∷ []) text x e
