use Rattle.live_controller.proofs.Doing.{calm-back, later-as, later-on}
use Rattle.live_controller.proofs.Telling.{agrees-cut, does-cut}
use Rattle.live_controller.proofs.desk.Desk.cut.Goals as goal

pub returns-clause-later : goal.returns-clause-later
returns-clause-later g c = later-on _ _ _ (later-as _ _ c.hang_up.ensures.counts) c.in_ok-tell.ensures.later

pub returns-clause-does : goal.returns-clause-does
returns-clause-does g c = λ calm agrees.
    let down = c.hang_up.ensures in
    let by = agrees-cut c.args.g c.args.self.now c.hang_up.new.self down.keeps.peers down.core down.down down.others agrees in
    let told = c.in_ok-tell.ensures.tells (calm-back _ _ _ (later-as _ _ down.counts) calm) by in
    does-cut c.args.g c.args.self.now c.hang_up.new.self c.tell.new.self _ _ _ down.keeps.peers down.core down.down down.others down.held
    told
