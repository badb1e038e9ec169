-- The headers that a script can have: gateways with names and addresses of their own, of one family.
use Rattle.std.specs.Prelude.{ℕ, ◌<◌, ◌^◌, length}
use Rattle.ikl_base.specs.Address.{AreOneFamily}
use Rattle.hist_acts.specs.declared.event.Header.{Header}
use Rattle.hist_controller.specs.Told.{Named, peer_address}

-- The last sequence number fits in 32 bits (RFC 4303 section 2.2), no two gateways share a name, and tunnels between any two have ends of
-- one family.
pub record IsHeader (header : Header) : Type 0 where
  pub numbers : header.seq_last < 2 ^ 32
  pub named : Named header.gateways
  pub family : (f g : ℕ) → f < length header.gateways → g < length header.gateways
      → AreOneFamily (peer_address header.gateways f) (peer_address header.gateways g)
