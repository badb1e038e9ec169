use Rattle.std.proofs.Common.{◌≡◌, ◌+◌, ◌∙◌, Bool, ap, arith}
use Rattle.drill_script.specs.Drawn.{drawn, is_let, is_now, kind_of, one_more}
use Rattle.drill_script.proofs.DrawnLemmas.{first-number, line-more, many-more, more-few, no-lines, none-before, number-more}
use Rattle.drill_script.proofs.script.put_drawn.Goals as goal

pub lines-init : goal.lines-init
lines-init c = record {
  text = no-lines c.args.n c.args.out.now.items;
  number = first-number c.args.n;
  lets = none-before is_let c.args.n;
  nows = none-before is_now c.args.n;
  few_lets = omega arith;
  few_nows = omega arith;
}

pub lines-preserved : goal.lines-preserved
lines-preserved c =
    let inv = c.lines.invariant in
    let k = c.lines._line in
    let number : c.next_number-x.result ≡ drawn c.args.n (k + 1) = c.next_number-x.ensures ∙ number-more c.args.n k c.lines.x inv.number in
    let lets : c.counted-lets.result ≡ one_more (is_let (kind_of c.next_number-x.result)) c.lines.lets =
    c.counted-lets.ensures ∙ ap (λ (b : Bool). one_more b c.lines.lets) (c.has_packet.ensures ∙ ap is_let c.drawn_kind.ensures) in
    let nows : c.counted-nows.result ≡ one_more (is_now (kind_of c.next_number-x.result)) c.lines.nows =
    c.counted-nows.ensures ∙ ap (λ (b : Bool). one_more b c.lines.nows) (c.has_time.ensures ∙ ap is_now c.drawn_kind-in-lines.ensures) in
    record {
      text = line-more c.args.n k c.next_number-x.result c.lines.lets c.lines.nows c.args.out.now.items _ _ _ number inv.lets inv.nows
          inv.text c.in_ok-put_drawn_line.ensures c.in_ok-put_octet.ensures;
      number = number;
      lets = lets ∙ many-more is_let c.args.n k c.next_number-x.result c.lines.lets number inv.lets;
      nows = nows ∙ many-more is_now c.args.n k c.next_number-x.result c.lines.nows number inv.nows;
      few_lets = rw c.counted-lets.ensures (more-few c.has_packet.result c.lines.lets k inv.few_lets);
      few_nows = rw c.counted-nows.ensures (more-few c.has_time.result c.lines.nows k inv.few_nows);
    }
