-- A history of events whose requests have no fault puts none into the databases.
use Rattle.std.proofs.Common.{◌<◌, ℕ, List, [], ◌∷◌, All, Ok, Err, map, sym, subst}
use Rattle.std.proofs.lemmas.List.Elements.{All-cons, All-nil}
use Rattle.ikeless_tree.specs.declared.sad.Tree.{Tree}
use Rattle.ikeless_tree.specs.declared.ends.GoneWhy.TheVariants as gone
use Rattle.reply_table.specs.declared.ask.Ask.{Ask}
use Rattle.reply_table.specs.declared.ask.Change.{Change}
use Rattle.reply_table.specs.declared.ask.Change.TheVariants as changes
use Rattle.reply_table.specs.Reply as table
use Rattle.rc_resource.proofs.RuleLemmas.{keeps}
use Rattle.hist_acts.specs.declared.act.Act.{Act}
use Rattle.hist_acts.specs.declared.act.Act.TheVariants as acts
use Rattle.hist_acts.specs.Past.{after}
use Rattle.hist_gateway.specs.Block.{gw_block, gw_history}
use Rattle.hist_gateway.specs.Handle.{change_acts}
use Rattle.hist_gateway.specs.May.{IsGatewayPast}
use Rattle.hist_gateway.specs.State.{state_of}
use Rattle.hist_gateway.proofs.KeptSteps.{after-append}
use Rattle.gw_tables.specs.Kept.{Kept, tree_of}
use Rattle.gw_tables.specs.Sound.{IsSound}
use Rattle.gw_packets.specs.declared.done.Config.{Config}
use Rattle.gw_requests.specs.Requests.{MayChange}
use Rattle.gw_requests.proofs.Changes.{is-tree, may-change}
use Rattle.gw_core.specs.Machine.{Event, Let, Arrive, Clock, Handle, Session_taken, IsEvent}
use Rattle.gw_law.specs.Told.{Naming, kept_of, naming_of}
use Rattle.gw_law.specs.Orderly.{InstallsTunnel, IsTunnelEvent}
use Rattle.gw_law.specs.Faultless.{HasNoFault}
use Rattle.gw_law.proofs.Pasts.{all-after}
use Rattle.gw_law.proofs.Plain.{HoldsOfChange, IsPlain, step-all}
use Rattle.gw_law.proofs.Runs.{Law, block-is, installs-after}
use Rattle.gw_law.proofs.Sound.{sound-past}
use Rattle.gw_history.specs.Told.{AreEvents, AreTunnelEvents, event_of, gateway_of}

-- ---- one step

fault-plain : IsPlain HasNoFault
fault-plain = record {
  let_in = λ g o. tt;
  arrived = λ g o. tt;
  read = λ t. tt;
  clear = λ g o. tt;
  sent = λ g x n o. tt;
  dropped = λ g w. tt;
  gave = λ g x n o. tt;
  passed = λ g o. tt;
  ended = λ g x w. tt;
  noticed = λ g s n. tt;
  opened = λ g s. tt;
  handled = λ g s k a. tt;
}

one : (a : Act) → HasNoFault a → All HasNoFault (a ∷ [])
one a p = All-cons HasNoFault a [] p (All-nil HasNoFault)

change-none : (g : List ℕ) (r : table.Outcome) (c : Change) (k : Kept) → MayChange r.tree.spd c k → All HasNoFault (change_acts g r c)
change-none g r changes.Nothing k p = All-nil HasNoFault
change-none g r changes.Spd k p = one (acts.Policy g r.tree.spd) p
change-none g r (changes.Put e) k p = one (acts.Put g e) p.0
change-none g r (changes.Gone name) k p = one (acts.Gone g name gone.Removed) tt

-- what a reply's change fits, and what it makes of the databases
pub record Table : Type 0 where
  pub fits : (t : Tree) (a : Ask) → table.Fits t (table.reply t a).change
  pub makes : (t : Tree) (a : Ask) → table.Makes t (table.reply t a) (table.reply t a).change

change-by : Table → (n : Naming) (k : Kept) (e : Event) → IsSound k → IsEvent e → HoldsOfChange HasNoFault n k (event_of e)
change-by rows n k (Let o) sound p = tt
change-by rows n k (Arrive o) sound p = tt
change-by rows n k (Clock t) sound p = tt
change-by rows n k (Handle (Ok ask)) sound p =
    let r : table.Outcome = table.reply (tree_of k) ask in
    change-none n.name r r.change k (may-change rows.fits rows.makes k ask (keeps (tree_of k) ask (is-tree k sound) p))
change-by rows n k (Handle (Err e)) sound p = tt
change-by rows n k Session_taken sound p = tt

-- ---- histories

-- what holds of a past: it is lawful, its halves have their tunnels, and nothing has a fault
pub record IsWhole (g : List ℕ) (c : Config) (h : List Act) : Type 0 where
  pub lawful : IsGatewayPast (gateway_of g c) h
  pub tunnels : All InstallsTunnel h
  pub faultless : All HasNoFault h

whole-step : Law → Table → (g : List ℕ) (c : Config) (h : List Act) (e : Event) → c.seq_last < 4294967296 → IsEvent e
    → IsTunnelEvent (event_of e) →
    IsWhole g c h → IsWhole g c (after h (gw_block (gateway_of g c) h (event_of e)))
whole-step law rows g c h e few p t w =
    let k : Kept = kept_of (state_of g h) in
    let n : Naming = naming_of g (state_of g h) in
    let block = block-is law (gateway_of g c) h (event_of e) w.lawful w.tunnels in
    let sound = sound-past (gateway_of g c) g h w.lawful few w.faultless in
    let done = step-all HasNoFault fault-plain (gateway_of g c) n k (event_of e) (change-by rows n k e sound p) in
    record {
      lawful = law.lawful (gateway_of g c) h (event_of e) w.lawful;
      tunnels = installs-after law (gateway_of g c) h (event_of e) w.lawful w.tunnels t;
      faultless = all-after HasNoFault h (gw_block (gateway_of g c) h (event_of e)) w.faultless (subst (All HasNoFault) block.acts done);
    }

pub whole-on : Law → Table → (g : List ℕ) (c : Config) (es : List Event) (h : List Act) → c.seq_last < 4294967296 → AreEvents es
    → AreTunnelEvents es →
    IsWhole g c h → IsWhole g c (after h (gw_history (gateway_of g c) h (map event_of es)))
whole-on law rows g c [] h few p t w = w
whole-on law rows g c (e ∷ es) h few p t w =
    let block : List Act = gw_block (gateway_of g c) h (event_of e) in
    let more : List Act = gw_history (gateway_of g c) (after h block) (map event_of es) in
    subst (IsWhole g c) (sym (after-append h block more))
    (whole-on law rows g c es (after h block) few p.1 t.1 (whole-step law rows g c h e few p.0 t.0 w))

pub whole-none : (g : List ℕ) (c : Config) → IsWhole g c []
whole-none g c = record { lawful = tt; tunnels = All-nil InstallsTunnel; faultless = All-nil HasNoFault }

pub sound-history : Law → Table → (c : Config) (g : List ℕ) (es : List Event) → c.seq_last < 4294967296 → AreEvents es → AreTunnelEvents es
    →
    IsSound (kept_of (state_of g (after [] (gw_history (gateway_of g c) [] (map event_of es)))))
sound-history law rows c g es few p t =
    let w = whole-on law rows g c es [] few p t (whole-none g c) in
    sound-past (gateway_of g c) g (after [] (gw_history (gateway_of g c) [] (map event_of es))) w.lawful few w.faultless
