use Rattle.std.proofs.Common.{ℕ, List, refl, sym, ◌∙◌, subst, arith}
use Rattle.live_client.specs.Asking.{Gave, begins}
use Rattle.live_client.proofs.Turns.{gave_more, replied_fault, replied_told}
use Rattle.live_client.proofs.ask.await_reply.Goals as goal

pub turns-init : goal.turns-init
turns-init g c =
    let P : List ℕ → Type 0 = λ o. Gave (g.L.Dialer.held c.args.dialer.now 0) 0 o (g.L.Dialer.held c.args.dialer.now 0) in
    record {
      waiting = c.begun-reading.ensures.waiting;
      gave = subst P (sym c.begun-reading.ensures.none) begins;
      room = refl;
      known = c.requires.known;
      up = c.requires.up;
      kept = refl;
      calm = c.requires.calm;
      others = (λ k other. refl, λ k other. refl);
      counts = (λ k other. refl, λ k other. refl);
      peers = refl;
    }

pub returns-in-Ok-Some-clause-replied : goal.returns-in-Ok-Some-clause-replied
returns-in-Ok-Some-clause-replied g c =
    let brings = rw c.in-Ok-Some.field-0-is at c.in-Ok-Some.ensures.brings in
    replied_told _ _ _ c.turns._turn c.args.turns c.turns.reading.octets.items c.read_once.new.reading.octets.items
    c.read_once.new.reading.feeder
    c.in-Ok-Some.told c.turns.invariant.gave c.turns-test.true brings

pub returns-in-Err-clause-replied : goal.returns-in-Err-clause-replied
returns-in-Err-clause-replied g c =
    replied_fault _ _ _ c.turns._turn c.args.turns c.turns.reading.octets.items c.read_once.new.reading.octets.items
    c.read_once.new.reading.feeder
    c.in-Err.fault c.turns.invariant.gave c.turns-test.true c.turns.invariant.waiting.waits c.in-Err.ensures.brings

pub turns-preserved : goal.turns-preserved
turns-preserved g c =
    let brings = rw c.in-Ok-None.field-0-is at c.in-Ok-None.ensures.brings in
    let was = c.turns.invariant in
    record {
      waiting = brings.1;
      gave = gave_more _ _ _ c.turns._turn c.turns.reading.octets.items c.read_once.new.reading.octets.items c.read_once.new.reading.feeder
          was.gave brings;
      room = omega (arith, c.read_once.auto.buf, was.room);
      known = omega (arith, was.known, c.in-Ok-None.ensures.peers);
      up = c.in-Ok-None.ensures.up;
      kept = c.in-Ok-None.ensures.link.kept refl ∙ was.kept;
      calm = c.in-Ok-None.ensures.link.last;
      others = (
        λ k other. c.in-Ok-None.ensures.others.0 k other ∙ was.others.0 k other,
        λ k other. c.in-Ok-None.ensures.others.1 k other
            ∙ was.others.1 k other,
      );
      counts = (
        λ k other. c.in-Ok-None.ensures.counts.0 k other ∙ was.counts.0 k other,
        λ k other. c.in-Ok-None.ensures.counts.1 k other
            ∙ was.counts.1 k other,
      );
      peers = c.in-Ok-None.ensures.peers ∙ was.peers;
    }
