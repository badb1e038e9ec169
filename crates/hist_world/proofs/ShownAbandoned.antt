-- A session is cut before the put of an inbound half was handled: that half is removed, and its outbound half never ordered.
use Rattle.std.proofs.Common.{◌≡◌, List, [], ◌∷◌, ◌++◌, codes, refl}
use Rattle.std.specs.Fmt.{digits}
use Rattle.ikeless_tree.specs.declared.order.Order.TheVariants as asks
use Rattle.ikeless_tree.specs.declared.error.Tag.TheVariants as tags
use Rattle.ikeless_tree.specs.Half.{in_name, out_name}
use Rattle.reply_table.specs.Reply.{reply}
use Rattle.hist_acts.specs.declared.act.Act.{Act}
use Rattle.hist_acts.specs.declared.act.Act.TheVariants as acts
use Rattle.hist_acts.specs.declared.event.Event.{Event}
use Rattle.hist_acts.specs.declared.event.Event.TheVariants as events
use Rattle.hist_acts.specs.Past.{after}
use Rattle.hist_controller.specs.Acts as own
use Rattle.hist_world.specs.Block.{Past, Shows, history, nothing}
use Rattle.hist_world.proofs.Goes.{Goes, and-then, quiet}
use Rattle.hist_world.proofs.Shown.{b, list_b, plain, refused, two, greatest}
use Rattle.hist_world.proofs.ShownSetup.{after_begun, begun, begun_acts, begun-goes}

abbrev pub cut_off : List Event
cut_off =
    events.Cut b ∷ events.Open b ∷ events.Down b ∷ events.Up b ∷ events.Down b ∷ events.Down b ∷ []

abbrev pub cut_off_acts : List Act
cut_off_acts =
    acts.Took 16 ∷ acts.Cut b 1
    ∷ acts.Took 17 ∷ acts.Opened b 2 ∷ acts.Order b 2 1 asks.Read ∷ acts.Order b 2 2 (asks.Policy list_b)
    ∷ acts.Took 18 ∷ acts.Handled b 2 1 (plain 200)
    ∷ acts.Took 19 ∷ acts.Answered b 2 1 (plain 200) ∷ acts.Order b 2 3 (asks.Remove (codes "in/1"))
    ∷ acts.Took 20 ∷ acts.Policy b list_b ∷ acts.Handled b 2 2 (plain 204)
    ∷ acts.Took 21 ∷ acts.Handled b 2 3 (refused 404 tags.InvalidValue) ∷ []

abbrev pub cut_off_own : List own.ControllerAct
cut_off_own =
    own.Cut 1 1
    ∷ own.Opened 1 2 ∷ own.Ordered 1 2 1 own.Read ∷ own.Ordered 1 2 2 (own.Policy list_b)
    ∷ own.Answered 1 2 1 (plain 200) ∷ own.Ordered 1 2 3 (own.RemoveIn 1) ∷ []

abbrev pub after_cut_off : Past
after_cut_off = record { world = after after_begun.world cut_off_acts; controller = after after_begun.controller cut_off_own }

pub cut_off-goes : (shows : Shows) → Goes shows (two greatest) after_begun cut_off cut_off_acts after_cut_off
unfolding reply in_name out_name digits
cut_off-goes shows = record { acts = refl; past = refl; genuine = quiet shows (two greatest) after_begun cut_off refl }

abbrev pub abandoned : List Event
abandoned = begun ++ cut_off

abbrev pub abandoned_acts : List Act
abandoned_acts = begun_acts ++ cut_off_acts

pub abandoned-goes : (shows : Shows) → Goes shows (two greatest) nothing abandoned abandoned_acts after_cut_off
abandoned-goes shows = and-then (begun-goes shows greatest) (cut_off-goes shows)

pub shown-abandoned : (shows : Shows) → history shows (two greatest) nothing abandoned ≡ abandoned_acts
shown-abandoned shows = (abandoned-goes shows).acts
