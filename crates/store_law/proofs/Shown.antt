-- Calls of the store, computed: what one call after the other leaves, and what looking back says.
use Rattle.std.proofs.Common.{◌≡◌, ℕ, true, false, List, [], ◌∷◌, codes, map, None, refl, arith}
use Rattle.ikl_base.specs.declared.address.Addr.TheVariants.{V4}
use Rattle.ikl_base.specs.declared.address.Prefix.{Prefix}
use Rattle.ikeless_tree.specs.declared.entry.Selector.{Selector}
use Rattle.ikeless_tree.specs.declared.sad.Df.TheVariants as dfs
use Rattle.ikeless_tree.specs.declared.sad.SadEntry.{SadEntry}
use Rattle.sad_store.specs.declared.half.Half.{Half}
use Rattle.sad_store.specs.Halves.{fresh}
use Rattle.store_law.specs.Calls.{Call, Install, Remove, Next_number, Mark, Use, Look, Overflow, Session, did_all}
use Rattle.store_law.specs.Back.{half_of, is_there, stands_at, there}

-- ---- who and what

abbrev site : Prefix
site = record { addr = V4 (10 ∷ 1 ∷ 0 ∷ 0 ∷ []); len = 16; in_range = omega arith; cleared = refl }

abbrev any : Selector
any = record { local = site; remote = site; proto = None; local_ports = []; remote_ports = [] }

-- a soft limit of 100 octets
abbrev entry : List ℕ → ℕ → SadEntry
entry name spi = record {
  name = name;
  reqid = 10;
  spi = spi;
  window = 64;
  selector = any;
  key = 0 ∷ 1 ∷ 2 ∷ 3 ∷ 4 ∷ 5 ∷ 6 ∷ 7 ∷ 8 ∷ 9 ∷ 10 ∷ 11 ∷ 12 ∷ 13 ∷ 14 ∷ 15 ∷ 160 ∷ 161 ∷ 162 ∷ 163 ∷ [];
  local = V4 (192 ∷ 0 ∷ 2 ∷ 1 ∷ []);
  remote = V4 (198 ∷ 51 ∷ 100 ∷ 1 ∷ []);
  df = dfs.Copy;
  hard = record { time = 0; bytes = 0; packets = 0; idle = 0 };
  soft = record { time = 0; bytes = 100; packets = 0; idle = 0 };
}

abbrev first : SadEntry
first = entry (codes "in/1") 257

abbrev second : SadEntry
second = entry (codes "in/2") 258

abbrev third : SadEntry
third = entry (codes "in/3") 259

-- what looking back says of all halves
abbrev looking_back : List Call → List Half
looking_back h = map (half_of h) (there h)

-- ---- a name that is put again after it was removed has its counts anew

abbrev used_once : List Call
used_once = Overflow 0 ∷ Mark 0 7 ∷ Use 0 120 12 ∷ Next_number 0 ∷ Install first 10 ∷ []

-- its soft limit was reached at the use, and told
abbrev half_used : Half
half_used = record {
  entry = first;
  sent = 1;
  window = record { size = 64; top = 7; inside = 7 ∷ [] };
  life = record { hard = first.hard; soft = first.soft; installed = 10; used = 12; octets = 120; packets = 1; is_told = true };
  overflow = true;
}

shown_used : (did_all used_once ≡ half_used ∷ []) × (looking_back used_once ≡ half_used ∷ [])
shown_used = (refl, refl)

abbrev put_again : List Call
put_again = Install first 50 ∷ Remove (codes "in/1") ∷ used_once

shown_again : (did_all put_again ≡ fresh 50 first ∷ []) × (looking_back put_again ≡ fresh 50 first ∷ [])
shown_again = (refl, refl)

-- a name that is there isn't put again, nor is an SPI that is taken, and the half stays as it was
shown_taken : (did_all (Install first 50 ∷ used_once) ≡ half_used ∷ []) × (looking_back (Install first 50 ∷ used_once) ≡ half_used ∷ [])
shown_taken = (refl, refl)

shown_spi_taken : (did_all (Install (entry (codes "in/9") 257) 50 ∷ used_once) ≡ half_used ∷ [])
    × (looking_back (Install (entry (codes "in/9") 257) 50 ∷ used_once) ≡ half_used ∷ [])
shown_spi_taken = (refl, refl)

-- a session takes back what was told, and neither counts nor window
abbrev half_quiet : Half
half_quiet = record half_used {
  life = record { hard = first.hard; soft = first.soft; installed = 10; used = 12; octets = 120; packets = 1; is_told = false };
  overflow = false;
}

shown_session : (did_all (Session ∷ used_once) ≡ half_quiet ∷ []) × (looking_back (Session ∷ used_once) ≡ half_quiet ∷ [])
shown_session = (refl, refl)

-- and then a look tells of the soft limit again
shown_look : did_all (Look 0 13 ∷ Session ∷ used_once) ≡ looking_back (Look 0 13 ∷ Session ∷ used_once)
shown_look = refl

-- ---- three halves, of which the one in the middle is removed: the places behind it move

abbrev three : List Call
three = Install third 3 ∷ Install second 2 ∷ Install first 1 ∷ []

abbrev moved : List Call
moved = Next_number 1 ∷ Next_number 0 ∷ Remove (codes "in/2") ∷ Next_number 1 ∷ Mark 2 5 ∷ three

abbrev first_after : Half
first_after = record (fresh 1 first) { sent = 1 }

abbrev third_after : Half
third_after = record (fresh 3 third) { sent = 1; window = record { size = 64; top = 5; inside = 5 ∷ [] } }

shown_moved : (did_all moved ≡ first_after ∷ third_after ∷ []) × (looking_back moved ≡ first_after ∷ third_after ∷ [])
shown_moved = (refl, refl)

shown_places : (stands_at 1 (codes "in/2") three ≡ true) × (stands_at 1 (codes "in/3") three ≡ false)
    × (stands_at 1 (codes "in/3") moved ≡ true) × (stands_at 2 (codes "in/3") moved ≡ false)
shown_places = (refl, refl, refl, refl)

shown_there : (is_there (codes "in/2") three ≡ true) × (is_there (codes "in/2") moved ≡ false) × (is_there (codes "in/3") moved ≡ true)
shown_there = (refl, refl, refl)

-- a call at a place where no half stands is one of none
shown_nowhere : did_all (Next_number 2 ∷ moved) ≡ did_all moved
shown_nowhere = refl
