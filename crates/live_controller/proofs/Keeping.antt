-- What the calls leave of the desk and of the dialer.
use Rattle.std.proofs.Common.{◌≡◌, ◌≢◌, ◌==◌, ◌<◌, ℕ, Bool, true, false, List, length, refl, sym, ◌∙◌, ap, subst, arith, zero, suc, [], ◌∷◌}
use Rattle.std.specs.Prelude.{All}
use Rattle.std.proofs.lemmas.List.Elements.{All-head, All-tail}
use Rattle.std.proofs.lemmas.Bool.Decides.{nat_tests}
use Rattle.ikeless_tree.specs.declared.command.Peer.{Peer}
use Rattle.ctl_core.specs.Core.{Core}
use Rattle.live_devices.specs.Dialers.{StaysBut}
use Rattle.live_controller.specs.declared.desk.Desk.{Desk}
use Rattle.live_controller.specs.declared.link.Link.{Link}
use Rattle.live_controller.specs.Desks.{IsDesk, Keeps, Serves}
use Rattle.live_controller.specs.Links.{OthersStay, up_at, up_of}
use Rattle.live_controller.specs.Standing.{IsStanding}

-- ---- numbers

pub same_number : (k g : ℕ) → (k == g) ≡ true → k ≡ g
same_number k g e = grind (arith, nat_tests, e)

pub other_number : (k g : ℕ) → (k == g) ≡ false → k ≢ g
other_number k g e same = (let no : ⊥ = grind (arith, nat_tests, e, same) in no)

by_test : (P : Type 0) (k g : ℕ) (b : Bool) → (k == g) ≡ b → (k ≡ g → P) → (k ≢ g → P) → P
by_test P k g true e same other = same (same_number k g e)
by_test P k g false e same other = other (other_number k g e)

pub by_number : (P : Type 0) (k g : ℕ) → (k ≡ g → P) → (k ≢ g → P) → P
by_number P k g same other = by_test P k g (k == g) refl same other

-- ---- the desk

pub none_up : (links : List Link) → All (λ link. link.is_up ≡ false) links → (g : ℕ) → up_at links g ≡ false
none_up [] all g = refl
none_up (link ∷ links) all zero = All-head (λ (l : Link). l.is_up ≡ false) link links all
none_up (link ∷ links) all (suc g) = none_up links (All-tail (λ (l : Link). l.is_up ≡ false) link links all) g

pub keeps_none : (d : Desk) → Keeps d d
keeps_none d = record { peers = refl; down = λ g down. down }

pub keeps_on : (a b c : Desk) → Keeps a b → Keeps b c → Keeps a c
keeps_on a b c first second = record { peers = second.peers ∙ first.peers; down = λ g down. second.down g (first.down g down) }

pub up_other : (g : ℕ) (old new : List Link) → OthersStay g old new → (k : ℕ) → k ≢ g → up_at new k ≡ up_at old k
up_other g old new stay k other = ap up_of (stay k other)

-- one link changed, and didn't come up
pub keeps_changed : (d e : Desk) (g : ℕ) → e.peers ≡ d.peers → OthersStay g d.links.items e.links.items
    → (up_at d.links.items g ≡ false → up_at e.links.items g ≡ false) → Keeps d e
keeps_changed d e g same stay down = record {
  peers = same;
  down = λ k was. by_number (up_at e.links.items k ≡ false) k g
      (λ is. let P : ℕ → Type 0 = λ i. up_at e.links.items i ≡ false in
      let Q : ℕ → Type 0 = λ i. up_at d.links.items i ≡ false in
      subst P (sym is) (down (subst Q is was)))
      (λ other. up_other g d.links.items e.links.items stay k other ∙ was);
}

-- the desk is one still where its controller and its peers are the same, and so many links are there
pub desk_same : (d e : Desk) → IsDesk d → e.peers ≡ d.peers → e.controller ≡ d.controller → length e.links.items ≡ length d.links.items →
    IsDesk e
desk_same d e is peers core size =
    let P : List Peer → Type 0 = λ ps. IsStanding ps e.controller in
    let Q : Core → Type 0 = λ c. IsStanding d.peers c in
    record {
      standing = subst P (sym peers) (subst Q (sym core) is.standing);
      size = size ∙ is.size ∙ sym
          (ap (λ (ps : List Peer). length ps) peers);
    }

-- one link changed, and with it whether the dialer's peer is up
pub serves_changed : (d e : Desk) (n m : ℕ) (up now : ℕ → Bool) (g : ℕ) → Serves d n up → IsDesk e → e.peers ≡ d.peers
    → OthersStay g d.links.items e.links.items → StaysBut g up now → now g ≡ up_at e.links.items g → m ≡ n → Serves e m now
serves_changed d e n m up now g s is peers stay others here same =
    let count : length e.peers ≡ length d.peers = ap (λ (ps : List Peer). length ps) peers in
    record {
      desk = is;
      known = let known = s.known in omega (arith, known, count, same);
      agrees = λ k within. by_number (now k ≡ up_at e.links.items k) k g
          (λ at. let P : ℕ → Type 0 = λ i. now i ≡ up_at e.links.items i in subst P (sym at) here)
          (λ other. let inside : k < length d.peers = omega (arith, within, count) in
          others k other ∙ s.agrees k inside ∙ sym (up_other g d.links.items e.links.items stay k other));
    }

none_changes : (g : ℕ) (links : List Link) → OthersStay g links links
none_changes g links k other = refl

-- no link changed, nor whether a peer is up
pub serves_still : (d : Desk) (n m : ℕ) (up now : ℕ → Bool) (g : ℕ) → Serves d n up → StaysBut g up now → now g ≡ up_at d.links.items g → m
    ≡ n
    → Serves d m now
serves_still d n m up now g s others here same =
    serves_changed d d n m up now g s s.desk refl (none_changes g d.links.items) others here same

-- a link changed otherwise than by coming up or going down
pub serves_fed : (d e : Desk) (n : ℕ) (up : ℕ → Bool) (g : ℕ) → g < length d.peers → Serves d n up → e.peers ≡ d.peers → e.controller ≡
    d.controller
    → length e.links.items ≡ length d.links.items → OthersStay g d.links.items e.links.items → up_at e.links.items g ≡ up_at d.links.items g
    → Serves e n up
serves_fed d e n up g within s peers core size stay here =
    serves_changed d e n n up up g s (desk_same d e s.desk peers core size) peers stay (λ k other. refl) (s.agrees g within ∙ sym here) refl

-- the controller took an event
pub serves_told : (d e : Desk) (n : ℕ) (up : ℕ → Bool) → Serves d n up → IsDesk e → e.peers ≡ d.peers → e.links ≡ d.links → Serves e n up
serves_told d e n up s is peers links =
    let count : length e.peers ≡ length d.peers = ap (λ (ps : List Peer). length ps) peers in
    record {
      desk = is;
      known = let known = s.known in omega (arith, known, count);
      agrees = λ k within. let inside : k < length d.peers = omega (arith, within, count) in
          s.agrees k inside ∙ sym (ap (λ v. up_at v.items k) links);
    }

pub keeps_told : (d e : Desk) → e.peers ≡ d.peers → e.links ≡ d.links → Keeps d e
keeps_told d e peers links = record { peers = peers; down = λ g was. ap (λ v. up_at v.items g) links ∙ was }
