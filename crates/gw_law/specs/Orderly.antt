-- What holds of everything that a gateway keeps, in every past.
use Rattle.std.specs.Prelude.{◌≡◌, ◌≤◌, true, List, [], ◌∷◌, All, Ok, length, take}
use Rattle.ikl_base.specs.Address.{AreOneFamily}
use Rattle.reply_table.specs.declared.ask.Ask.{Ask}
use Rattle.reply_table.specs.declared.ask.Ask.TheVariants as asks
use Rattle.sad_store.specs.declared.half.Half.{Half}
use Rattle.sad_store.specs.Halves.{names_of}
use Rattle.sad_store.specs.Kept.{are_names_apart}
use Rattle.hist_acts.specs.declared.act.Act.{Act}
use Rattle.hist_acts.specs.declared.act.Act.TheVariants as acts
use Rattle.hist_gateway.specs.Block.{GatewayEvent, Handle}
use Rattle.hist_gateway.specs.State.{GatewayState}

-- the addresses of a half's tunnel are of one family, and its window has the size that its entry says
abbrev pub HasTunnel : Half → Type 0
HasTunnel x = AreOneFamily x.entry.local x.entry.remote

-- the half's window has the size that its entry says
abbrev pub HasOwnWindow : Half → Type 0
HasOwnWindow x = x.window.size ≡ x.entry.window

-- no two halves have one name, there are at most 4,096, each has its tunnel and its window, and at most 64 SPIs are kept
pub record IsOrderly (s : GatewayState) : Type 0 where
  pub apart : are_names_apart (names_of s.halves) ≡ true
  pub few : length s.halves ≤ 4096
  pub tunnels : All HasTunnel s.halves
  pub windows : All HasOwnWindow s.halves
  pub few_spis : take 64 s.bad_spis ≡ s.bad_spis

-- a half that the act installs has its tunnel
abbrev pub InstallsTunnel : Act → Type 0
InstallsTunnel (acts.Put f e) = AreOneFamily e.local e.remote
InstallsTunnel _ = Unit {0}

-- a half that is asked for has its tunnel
abbrev pub AsksTunnel : Ask → Type 0
AsksTunnel (asks.PostSad e) = AreOneFamily e.local e.remote
AsksTunnel _ = Unit {0}

-- where the event is a request to install a half, that has its tunnel
abbrev pub IsTunnelEvent : GatewayEvent → Type 0
IsTunnelEvent (Handle (Ok ask)) = AsksTunnel ask
IsTunnelEvent _ = Unit {0}

-- so are all these events
abbrev pub AreTunnelEvents : List GatewayEvent → Type 0
AreTunnelEvents [] = Unit {0}
AreTunnelEvents (e ∷ es) = IsTunnelEvent e × AreTunnelEvents es

-- the events of all lives
abbrev pub AreTunnelLives : List (List GatewayEvent) → Type 0
AreTunnelLives [] = Unit {0}
AreTunnelLives (es ∷ more) = AreTunnelEvents es × AreTunnelLives more
