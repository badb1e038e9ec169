use Rattle.ikeless_cli.proofs.Taking.{takes-header}
use Rattle.ikeless_cli.proofs.running.take_line.Goals as goal

pub new-requires : goal.new-requires
new-requires c = c.reads_what_is_spelled.ensures.header _ _ c.in_ok-header-in-None.ensures

pub returns-in_ok-world-in-None-clause-ok : goal.returns-in_ok-world-in-None-clause-ok
returns-in_ok-world-in-None-clause-ok c = rw c.in-None.is (takes-header c.in_ok-header-in-None.header c.in_ok-world-in-None.world
    c.args.line.now _
    c.in_ok-header-in-None.ensures c.in_ok-world-in-None.ensures.header c.in_ok-world-in-None.ensures.start c.new-in-None.ensures.items)
