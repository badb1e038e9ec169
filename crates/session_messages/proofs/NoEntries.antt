-- The reply to a reading of databases without entries.
use Rattle.std.proofs.Common.{◌≡◌, [], sym, subst}
use Rattle.std.proofs.lemmas.List.Elements.{All-nil}
use Rattle.ikeless_tree.specs.declared.sad.Tree.{Tree}
use Rattle.ikeless_tree.specs.Typed.{AreTypedPolicies, AreTypedRows, IsTypedPolicy, IsTypedRow, IsTypedTree}
use Rattle.reply_table.specs.declared.ask.Ask.{Ask}
use Rattle.reply_table.specs.declared.ask.Ask.TheVariants as asks
use Rattle.reply_table.specs.Reply.{reply}
use Rattle.rc_http.specs.Written.{IsWritableResponse}
use Rattle.rc_request.specs.Asks.{IsAsk}
use Rattle.rc_resource.specs.declared.reply.Reply.{Reply}
use Rattle.rc_resource.specs.Lists.{IsTree}
use Rattle.rc_resource.specs.Messages.{reply_message}
use Rattle.rc_resource.specs.Replies.{reply_of}
use Rattle.rc_resource.proofs.RuleLemmas.{empty_keeps}

abbrev pub RepliesAreSent : Type 0
RepliesAreSent = (t : Tree) (a : Ask) → IsTree t → IsTypedTree t → IsAsk a → IsWritableResponse (reply_message (reply_of (reply t a)))

typed : (t : Tree) → t.spd ≡ [] → t.sad ≡ [] → IsTypedTree t
typed t spd sad = record {
  spd = subst AreTypedPolicies (sym spd) (All-nil IsTypedPolicy);
  sad = subst AreTypedRows (sym sad) (All-nil IsTypedRow);
}

pub reply_sent : RepliesAreSent → (t : Tree) → t.spd ≡ [] → t.sad ≡ [] → (r : Reply) → r ≡ reply_of (reply t asks.GetSad)
    → IsWritableResponse (reply_message r)
reply_sent sent t spd sad r is =
    let P : Reply → Type 0 = λ x. IsWritableResponse (reply_message x) in
    subst P (sym is) (sent t asks.GetSad (empty_keeps t spd sad) (typed t spd sad) tt)
