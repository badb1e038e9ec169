use Rattle.rc_request.specs.Requests.{no_message}
use Rattle.text_bounds.proofs.Errors.{refusal_writable}
use Rattle.text_bounds.proofs.Refusals.{sound_fault, sound_refusal}
use Rattle.text_bounds.proofs.Replies.{order_reply_sent, reply_sent}
use Rattle.text_bounds.proofs.laws.replies_can_be_written.Goals as goal

pub returns : goal.returns
returns c = record {
  orders = λ t o is rows policies h typed. order_reply_sent t o is rows policies h;
  asks = reply_sent;
  refusals = λ m e is. refusal_writable e (sound_refusal m e is);
  faults = λ f. refusal_writable (no_message f) (sound_fault f);
}
