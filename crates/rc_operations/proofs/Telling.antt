-- What the reply to a command tells a client.
use Rattle.std.proofs.Common.{◌≡◌, Option, Some, None, Result, Ok, IsUtf8, refl, ap}
use Rattle.std.specs.Prelude.{IfSome}
use Rattle.ikeless_tree.specs.declared.command.Refusal.{Refusal}
use Rattle.ikeless_tree.specs.declared.command.Refusal.TheVariants as refusals
use Rattle.json_values.specs.Faults.{◌>>=◌}
use Rattle.rc_request.specs.declared.error.RcError.{RcError}
use Rattle.rc_answer.specs.declared.answer.BadAnswer.{BadAnswer}
use Rattle.rc_answer.specs.declared.answer.ErrorTags.{ErrorTags}
use Rattle.rc_answer.specs.Answers.{error_of}
use Rattle.rc_resource.specs.Messages.{reply_message}
use Rattle.rc_resource.specs.Replies.{refusal}
use Rattle.rc_operations.specs.Replies.{command_error, command_reply, if_error, refusal_status, told_error, told_of, told_reply}

-- what the law of errors says
abbrev pub ErrorsAreRead : Type 0
ErrorsAreRead = (e : RcError) → IfSome e.path IsUtf8 → error_of (refusal e).body ≡ Ok (record { tag = e.tag; app = e.app })

refusal_told : ErrorsAreRead → (why : Refusal) → if_error (reply_message (refusal (command_error why))) ≡ Ok (told_reply (Some why))
refusal_told law why =
    ap (λ (r : Result ErrorTags BadAnswer). r >>= (λ found. Ok (told_error (refusal_status why) found))) (law (command_error why) tt)

pub reply_told : ErrorsAreRead → (refused : Option Refusal) → told_of (reply_message (command_reply refused)) ≡ Ok (told_reply refused)
reply_told law None = refl
reply_told law (Some refusals.UnknownGateway) = refusal_told law refusals.UnknownGateway
reply_told law (Some refusals.SameGateway) = refusal_told law refusals.SameGateway
reply_told law (Some refusals.TunnelExists) = refusal_told law refusals.TunnelExists
reply_told law (Some refusals.NoTunnel) = refusal_told law refusals.NoTunnel
reply_told law (Some refusals.TunnelLimit) = refusal_told law refusals.TunnelLimit
reply_told law (Some refusals.KeySeen) = refusal_told law refusals.KeySeen
reply_told law (Some refusals.KeyLength) = refusal_told law refusals.KeyLength
reply_told law (Some refusals.KeyLimit) = refusal_told law refusals.KeyLimit
