-- The words of `gateway`.
use Rattle.std.specs.Prelude.{List, codes, Result, Ok}
use Rattle.std.specs.declared.string.String.{String}
use Rattle.std.specs.declared.alloc.Global.{Global}
use Rattle.ikl_base.specs.declared.status.LineFault.{LineFault}
use Rattle.line_words.specs.Words.{◌>>=◌}
use Rattle.gw_packets.specs.declared.done.Config.{Config}
use Rattle.clap.specs.Words.{Row}
use Rattle.live_words.specs.declared.gateway.GatewayWords.{GatewayWords}
use Rattle.live_words.specs.declared.gateway.WirePorts.{WirePorts}
use Rattle.live_words.specs.Apps.{gateway_app}
use Rattle.live_words.specs.Values.{matched_by, address_at, count_at, port_at}

-- the gateway's own address, which is an end of its tunnels, and the last sequence number that its halves may use
unfoldable pub config_in : List Row → Result Config LineFault
config_in rows = address_at (codes "address") rows >>=
    (λ a. count_at (codes "seq-last") rows >>= (λ n. Ok (record { address = a; seq_last = n })))

-- the ports of both wires: where each receives, and where it sends to
unfoldable pub wires_in : List Row → Result WirePorts LineFault
wires_in rows =
    port_at (codes "inside") rows >>= (λ i. port_at (codes "inside-to") rows >>= (λ j.
    port_at (codes "outside") rows >>= (λ o. port_at (codes "outside-to") rows >>= (λ p.
    Ok (record { inside = i; inside_to = j; outside = o; outside_to = p })))))

-- all that `gateway` is told, by its matched arguments
unfoldable pub gateway_in : List Row → Result GatewayWords LineFault
gateway_in rows =
    config_in rows >>= (λ config. wires_in rows >>= (λ w. port_at (codes "control") rows >>= (λ c.
    port_at (codes "notice") rows >>= (λ n. count_at (codes "turns") rows >>= (λ t. Ok (record {
      config = config;
      inside = w.inside;
      inside_to = w.inside_to;
      outside = w.outside;
      outside_to = w.outside_to;
      control = c;
      notice = n;
      turns = t;
    }))))))

-- what the words of `gateway` say
abbrev pub gateway_words_of : List (String Global) → Result GatewayWords LineFault
gateway_words_of words = matched_by (codes "gateway") gateway_app words >>= gateway_in
