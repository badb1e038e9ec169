use Rattle.rc_resource.proofs.RuleLemmas.{empty_keeps}
use Rattle.session_messages.proofs.NoEntries.{reply_sent}
use Rattle.session_messages_tests.proofs.tests.no_halves.Goals as goal

pub apply-requires : goal.apply-requires
apply-requires c = empty_keeps _ c.new.ensures c.new-2.ensures

pub write_reply-requires : goal.write_reply-requires
write_reply-requires c = reply_sent c.replies_can_be_written.ensures.asks _ c.new.ensures c.new-2.ensures c.in_ok-reply.reply
    c.in_ok-reply.ensures.reply
