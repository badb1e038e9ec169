-- Replies, computed.
use Rattle.std.proofs.Common.{◌≡◌, ℕ, List, [], ◌∷◌, codes, replicate, None, refl, arith}
use Rattle.ikl_base.specs.declared.address.Addr.TheVariants.{V4}
use Rattle.ikl_base.specs.declared.address.Prefix.{Prefix}
use Rattle.ikeless_tree.specs.declared.sad.Df.TheVariants as dfs
use Rattle.ikeless_tree.specs.declared.sad.Limits.{Limits}
use Rattle.ikeless_tree.specs.declared.sad.SadEntry.{SadEntry}
use Rattle.ikeless_tree.specs.declared.sad.Tree.{Tree}
use Rattle.ikeless_tree.specs.declared.entry.Action.TheVariants as actions
use Rattle.ikeless_tree.specs.declared.entry.Direction.TheVariants.{Out}
use Rattle.ikeless_tree.specs.declared.entry.Selector.{Selector}
use Rattle.ikeless_tree.specs.declared.entry.SpdEntry.{SpdEntry}
use Rattle.reply_table.specs.declared.ask.Ask.TheVariants as asks
use Rattle.reply_table.specs.declared.ask.Place.{Place}
use Rattle.reply_table.specs.declared.ask.Place.TheVariants as places
use Rattle.reply_table.specs.declared.ask.Change.TheVariants as changes
use Rattle.reply_table.specs.Reply.{Policies, Policy, At_policy, At_half, reply, shows, made, done, exists, spi_taken, full, absent, no_point, with_spd, with_sad, new_row}

abbrev anywhere : Prefix
anywhere = record { addr = V4 (0 ∷ 0 ∷ 0 ∷ 0 ∷ []); len = 0; in_range = omega arith; cleared = refl }

abbrev all : Selector
all = record { local = anywhere; remote = anywhere; proto = None; local_ports = []; remote_ports = [] }

abbrev policy : List ℕ → ℕ → SpdEntry
policy name reqid = record { name = name; direction = Out; reqid = reqid; window = 64; selector = all; action = actions.Protect }

abbrev none : Limits
none = record { time = 0; bytes = 0; packets = 0; idle = 0 }

abbrev half : List ℕ → ℕ → SadEntry
half name spi = record {
  name = name;
  reqid = 10;
  spi = spi;
  window = 64;
  selector = all;
  key = [];
  local = V4 (192 ∷ 0 ∷ 2 ∷ 1 ∷ []);
  remote = V4 (198 ∷ 51 ∷ 100 ∷ 1 ∷ []);
  df = dfs.Copy;
  hard = none;
  soft = none;
}

abbrev p : SpdEntry
p = policy (codes "p") 1

abbrev q : SpdEntry
q = policy (codes "q") 2

abbrev r : SpdEntry
r = policy (codes "r") 3

abbrev two : Tree
two = record { spd = p ∷ q ∷ []; sad = [] }

-- ---- policies

abbrev at : Place → List SpdEntry
at place = (reply two (asks.PostSpd r place)).tree.spd

shown_first : at places.First ≡ r ∷ p ∷ q ∷ []
unfolding reply
shown_first = refl

shown_last : at places.Last ≡ p ∷ q ∷ r ∷ []
unfolding reply
shown_last = refl

shown_before : at (places.Before (codes "q")) ≡ p ∷ r ∷ q ∷ []
unfolding reply
shown_before = refl

shown_after : at (places.After (codes "p")) ≡ p ∷ r ∷ q ∷ []
unfolding reply
shown_after = refl

shown_made : reply two (asks.PostSpd r places.Last) ≡ made (At_policy (codes "r")) changes.Spd (with_spd two (p ∷ q ∷ r ∷ []))
unfolding reply
shown_made = refl

shown_no_point : reply two (asks.PostSpd r (places.After (codes "s"))) ≡ no_point two
unfolding reply
shown_no_point = refl

-- a name that is there comes before a point that isn't, and so does a list that is full
shown_exists : reply two (asks.PostSpd q (places.After (codes "s"))) ≡ exists two
unfolding reply
shown_exists = refl

abbrev many : ℕ → Tree
many n = record { spd = replicate n p; sad = [] }

shown_full : reply (many 256) (asks.PostSpd r (places.After (codes "s"))) ≡ full (many 256)
unfolding reply
shown_full = refl

shown_room : (reply (many 255) (asks.PostSpd r places.First)).status ≡ 201
unfolding reply
shown_room = refl

-- an entry is replaced in its place, or is the new last one
shown_replaced : reply two (asks.PutSpdEntry (policy (codes "p") 7)) ≡ done changes.Spd (with_spd two (policy (codes "p") 7 ∷ q ∷ []))
unfolding reply
shown_replaced = refl

shown_added : reply two (asks.PutSpdEntry r) ≡ made (At_policy (codes "r")) changes.Spd (with_spd two (p ∷ q ∷ r ∷ []))
unfolding reply
shown_added = refl

shown_full_put : reply (many 256) (asks.PutSpdEntry r) ≡ full (many 256)
unfolding reply
shown_full_put = refl

shown_deleted : reply two (asks.DeleteSpdEntry (codes "p")) ≡ done changes.Spd (with_spd two (q ∷ []))
unfolding reply
shown_deleted = refl

shown_absent : reply two (asks.DeleteSpdEntry (codes "r")) ≡ absent two
unfolding reply
shown_absent = refl

shown_list : reply two asks.GetSpd ≡ shows two (Policies (p ∷ q ∷ []))
unfolding reply
shown_list = refl

shown_entry : reply two (asks.GetSpdEntry (codes "q")) ≡ shows two (Policy q)
unfolding reply
shown_entry = refl

shown_put_list : reply two (asks.PutSpd (r ∷ [])) ≡ done changes.Spd (with_spd two (r ∷ []))
unfolding reply
shown_put_list = refl

-- ---- associations

abbrev in_1 : SadEntry
in_1 = half (codes "in/1") 257

abbrev out_1 : SadEntry
out_1 = half (codes "out/1") 257

abbrev empty : Tree
empty = record { spd = []; sad = [] }

abbrev with_in : Tree
with_in = with_sad empty (new_row in_1 ∷ [])

shown_installed : reply empty (asks.PostSad in_1) ≡ made (At_half (codes "in/1")) (changes.Put in_1) with_in
unfolding reply
shown_installed = refl

shown_half_exists : reply with_in (asks.PostSad in_1) ≡ exists with_in
unfolding reply
shown_half_exists = refl

-- an outbound half may have the SPI of an inbound one, another inbound half may not
shown_spi_taken : reply with_in (asks.PostSad (half (codes "in/9") 257)) ≡ spi_taken with_in
unfolding reply
shown_spi_taken = refl

shown_outbound : (reply with_in (asks.PostSad out_1)).tree.sad ≡ new_row in_1 ∷ new_row out_1 ∷ []
unfolding reply
shown_outbound = refl

shown_names : (reply (with_sad empty (new_row out_1 ∷ new_row in_1 ∷ [])) asks.GetSad).names ≡ codes "out/1" ∷ codes "in/1" ∷ []
unfolding reply
shown_names = refl

shown_removed : reply with_in (asks.DeleteSad (codes "in/1")) ≡ done (changes.Gone (codes "in/1")) empty
unfolding reply
shown_removed = refl

shown_half_absent : reply with_in (asks.DeleteSad (codes "in/7")) ≡ absent with_in
unfolding reply
shown_half_absent = refl
