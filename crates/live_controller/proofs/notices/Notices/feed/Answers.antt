use Rattle.std.proofs.Common.{Ok, subst}
use Rattle.notice_lines.specs.declared.reader.Heard.TheVariants as heard
use Rattle.live_controller.specs.declared.notices.Noted.TheVariants as noted
use Rattle.live_controller.specs.Streams.{Notes}
use Rattle.live_controller.proofs.Feeding.{gives_next, line_heard, part_begun}
use Rattle.live_controller.proofs.notices.Notices.feed.Goals as goal

pub invariant_of-self-in-Ok-Line : goal.invariant_of-self-in-Ok-Line
invariant_of-self-in-Ok-Line c =
    let fed = c.in-Ok-Line.ensures in
    (line_heard c.self.inside.reader c.feed.new.self c.args.piece.now c.in-Ok-Line.notice c.in-Ok-Line.taken c.self.invariant
    (gives_next c.self.inside.reader.fault c.self.inside.reader c.feed.new.self c.args.piece.now
    (Ok (heard.Line c.in-Ok-Line.notice c.in-Ok-Line.taken))
    c.self.invariant.fault (rw c.in-Ok-Line.field-0-is at fed))).part

pub invariant_of-self-in-Err-Refused : goal.invariant_of-self-in-Err-Refused
invariant_of-self-in-Err-Refused c = part_begun c.new.result c.new.ensures

pub returns-in-Ok-Line : goal.returns-in-Ok-Line
returns-in-Ok-Line c =
    let fed = c.in-Ok-Line.ensures in
    let notes = subst (λ z. Notes z c.feed.new.self.kept c.args.piece.now (noted.Line c.in-Ok-Line.notice c.in-Ok-Line.taken))
    c.self.view_is
    (line_heard c.self.inside.reader c.feed.new.self c.args.piece.now c.in-Ok-Line.notice c.in-Ok-Line.taken c.self.invariant
    (gives_next c.self.inside.reader.fault c.self.inside.reader c.feed.new.self c.args.piece.now
    (Ok (heard.Line c.in-Ok-Line.notice c.in-Ok-Line.taken))
    c.self.invariant.fault (rw c.in-Ok-Line.field-0-is at fed))).notes in
    rw c.in-Ok-Line.field-0-is notes
