-- What a request does at a gateway: the change that its reply makes, and then the reply (RFC 8040 section 4).
use Rattle.std.specs.Prelude.{◌≡◌, List, [], ◌∷◌, ◌++◌, None, Result, Ok, Err, IfSome, IsUtf8, false}
use Rattle.ikeless_tree.specs.Check.{spd_fault, sad_fault}
use Rattle.ikeless_tree.specs.declared.entry.SpdEntry.{SpdEntry}
use Rattle.ikeless_tree.specs.declared.order.Order.{Order}
use Rattle.ikeless_tree.specs.declared.sad.Tree.{Tree}
use Rattle.ikeless_tree.specs.Typed.{IsTypedTree}
use Rattle.sad_store.specs.Install.{install_fault}
use Rattle.reply_table.specs.declared.ask.Ask.{Ask}
use Rattle.reply_table.specs.declared.ask.Change.{Change}
use Rattle.reply_table.specs.declared.ask.Change.TheVariants as changes
use Rattle.reply_table.specs.Reply as table
use Rattle.rc_request.specs.Asks.{IsAsk}
use Rattle.rc_request.specs.declared.error.RcError.{RcError}
use Rattle.rc_answer.specs.Answers.{answer_of}
use Rattle.rc_resource.specs.Laws.{answer_by}
use Rattle.rc_resource.specs.Lists.{IsTree}
use Rattle.rc_resource.specs.Messages.{reply_message}
use Rattle.rc_resource.specs.Replies.{reply_of, refusal}
use Rattle.gw_tables.specs.Kept.{Kept, kept_after, tree_of}
use Rattle.gw_requests.specs.declared.act.GwAct.{GwAct}
use Rattle.gw_requests.specs.declared.act.GwAct.TheVariants as acts

-- what was done, and what is kept then
pub record Outcome : Type 0 where
  pub acts : List GwAct
  pub kept : Kept

-- a request that speaks of entries without a fault, or the refusal of one that could not be read
abbrev pub IsRequest : Result Ask RcError → Type 0
IsRequest (Ok ask) = IsAsk ask
IsRequest (Err e) = IfSome e.path IsUtf8

-- ---- a change, where the policies after it are these

-- a list put in force, a half installed, or one removed by an order
abbrev pub acts_of_change : List SpdEntry → Change → List GwAct
acts_of_change list changes.Nothing = []
acts_of_change list changes.Spd = acts.Spd list ∷ []
acts_of_change list (changes.Put e) = acts.Put e ∷ []
acts_of_change list (changes.Gone name) = acts.Gone name false ∷ []

-- nothing is put that has a fault or has no place
abbrev pub MayChange : List SpdEntry → Change → Kept → Type 0
MayChange list changes.Nothing k = Unit {0}
MayChange list changes.Spd k = spd_fault list ≡ None
MayChange list (changes.Put e) k = (sad_fault e ≡ None) × (install_fault e k.halves ≡ None)
MayChange list (changes.Gone name) k = Unit {0}

-- ---- a request

-- the databases have no fault, and their numbers are those of their types, so every reply about them can be written
pub record CanTell (t : Tree) : Type 0 where
  pub sound : IsTree t
  pub typed : IsTypedTree t

-- the response that carries the reply to an order is read as the answer
abbrev pub IsAnswered : Order → table.Outcome → Type 0
IsAnswered o r = answer_of o (reply_message (reply_of r)) ≡ Ok (answer_by r)

-- the change of a reply, then the reply; what is kept is changed in the same way
abbrev pub answered : table.Outcome → Kept → Outcome
answered r k = record { acts = acts_of_change r.tree.spd r.change ++ acts.Reply (reply_of r) ∷ []; kept = kept_after r.tree.spd r.change k }

-- a refusal changes nothing
abbrev pub refused : RcError → Kept → Outcome
refused e k = record { acts = acts.Reply (refusal e) ∷ []; kept = k }

-- a request that was read is done, and one that wasn't is refused
abbrev pub handled : Result Ask RcError → Kept → Outcome
handled (Ok ask) k = answered (table.reply (tree_of k) ask) k
handled (Err e) k = refused e k
