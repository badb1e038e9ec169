use Rattle.std.proofs.Common.{subst}
use Rattle.rc_request.specs.Asks.{IsAsk}
use Rattle.rc_resource.proofs.RuleLemmas.{delete_keeps, done_keeps, install_keeps, post_keeps, put_keeps, remove_keeps}
use Rattle.rc_resource.proofs.perform.carry_out.Goals as goal

pub returns-in-PostSpd-clause-rules : goal.returns-in-PostSpd-clause-rules
returns-in-PostSpd-clause-rules c = λ ask. done_keeps c.post_spd.result _ _ _ c.post_spd.ensures.tree c.post_spd.ensures.err c.requires
    (post_keeps _ _ _ c.requires (subst IsAsk c.in-PostSpd.is ask))

pub returns-in-PutSpdEntry-clause-rules : goal.returns-in-PutSpdEntry-clause-rules
returns-in-PutSpdEntry-clause-rules c = λ ask. done_keeps c.put_spd_entry.result _ _ _ c.put_spd_entry.ensures.tree
    c.put_spd_entry.ensures.err c.requires (put_keeps _ _ c.requires (subst IsAsk c.in-PutSpdEntry.is ask))

pub returns-in-DeleteSpdEntry-clause-rules : goal.returns-in-DeleteSpdEntry-clause-rules
returns-in-DeleteSpdEntry-clause-rules c = λ ask. done_keeps c.delete_spd_entry.result _ _ _ c.delete_spd_entry.ensures.tree
    c.delete_spd_entry.ensures.err c.requires (delete_keeps _ _ c.requires)

pub returns-in-PostSad-clause-rules : goal.returns-in-PostSad-clause-rules
returns-in-PostSad-clause-rules c = λ ask. done_keeps c.post_sad.result _ _ _ c.post_sad.ensures.tree c.post_sad.ensures.err c.requires
    (install_keeps _ _ c.requires (subst IsAsk c.in-PostSad.is ask))

pub returns-in-DeleteSad-clause-rules : goal.returns-in-DeleteSad-clause-rules
returns-in-DeleteSad-clause-rules c = λ ask. done_keeps c.delete_sad.result _ _ _ c.delete_sad.ensures.tree c.delete_sad.ensures.err
    c.requires (remove_keeps _ _ c.requires)
