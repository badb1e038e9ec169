-- What the law of lines shows of the acts of gateways.
use Rattle.esp_frame.specs.Laws.{SealedLength}
use Rattle.hist_halves.specs.Halves.{live}
use Rattle.acts_spell.proofs.Arrivals.{arrive-spelled}
use Rattle.acts_spell.proofs.Found.{live-good}
use Rattle.acts_spell.proofs.Lets.{let-spelled}
use Rattle.acts_spell.proofs.Notices.{look-spelled}
use Rattle.acts_spell.proofs.Packets.{ttl-octets}
use Rattle.acts_spell.proofs.Sent.{flipped-octets, sent-octets}
use Rattle.world_law.proofs.Takes.{Spells}

pub spells : SealedLength → Spells
spells len = record {
  lets = λ gs g o seq_last h known octets low spelled. let-spelled len gs g o seq_last h known octets low spelled;
  arrivals = λ gs g o own h known octets spelled. arrive-spelled gs g o own h known octets spelled;
  looks = λ gs g h known spelled. look-spelled gs g h (live g h) known spelled (live-good gs g h spelled);
  sent = λ gs k h spelled. sent-octets gs k h spelled;
  flips = λ offset bit o low octets. flipped-octets offset bit o low octets;
  times = λ ttl o low octets. ttl-octets ttl o low octets;
}
