-- The reply to each request, without its text: methods and statuses of RESTCONF (RFC 8040 sections 3.5 and 4), error tags of
-- its section 7, and this project's own app tags and limits.
use Rattle.std.specs.Prelude.{◌≡◌, ℕ, ◌==◌, ◌&&◌, ◌||◌, nat_le, not, Bool, true, false, List, [], ◌∷◌, ◌++◌, length, map, filter, find, Option, Some, None, if◌then◌else◌}
use Rattle.std.specs.List.{list_any}
use Rattle.std.specs.Str.{bytes_eq}
use Rattle.ikeless_tree.specs.declared.entry.SpdEntry.{SpdEntry}
use Rattle.ikeless_tree.specs.declared.sad.Limits.{Limits}
use Rattle.ikeless_tree.specs.declared.sad.SadEntry.{SadEntry}
use Rattle.ikeless_tree.specs.declared.sad.SadRow.{SadRow}
use Rattle.ikeless_tree.specs.declared.sad.Tree.{Tree}
use Rattle.ikeless_tree.specs.declared.error.Tag.{Tag}
use Rattle.ikeless_tree.specs.declared.error.Tag.TheVariants as tags
use Rattle.ikeless_tree.specs.declared.error.App.{App}
use Rattle.ikeless_tree.specs.declared.error.App.TheVariants as apps
use Rattle.ikeless_tree.specs.Check.{is_named}
use Rattle.ikeless_tree.specs.Half.{is_inbound}
use Rattle.reply_table.specs.declared.ask.Place.{Place}
use Rattle.reply_table.specs.declared.ask.Place.TheVariants as places
use Rattle.reply_table.specs.declared.ask.Ask.{Ask}
use Rattle.reply_table.specs.declared.ask.Ask.TheVariants as asks
use Rattle.reply_table.specs.declared.ask.Change.{Change}
use Rattle.reply_table.specs.declared.ask.Change.TheVariants as changes

-- what the body of a reply shows
pub data Shown : Type 0 where
  Nothing : Shown
  Policies : (list : List SpdEntry) → Shown
  Policy : (entry : SpdEntry) → Shown
  Halves : (rows : List SadRow) → Shown
  Half : (row : SadRow) → Shown

-- the entry that the location of a reply names
pub data Location : Type 0 where
  Nowhere : Location
  At_policy : (name : List ℕ) → Location
  At_half : (name : List ℕ) → Location

-- A reply without its text, and the databases after it. The names are those of a reading of all associations.
pub record Outcome : Type 0 where
  pub status : ℕ
  pub tag : Option Tag
  pub app : Option App
  pub shown : Shown
  pub names : List (List ℕ)
  pub location : Location
  pub change : Change
  pub tree : Tree

-- 200, with a body that shows this, and no change
abbrev pub shows : Tree → Shown → Outcome
shows t s = record { status = 200; tag = None; app = None; shown = s; names = []; location = Nowhere; change = changes.Nothing; tree = t }

-- 201, with the location of what was made, or 204
abbrev pub made : Location → Change → Tree → Outcome
made l c t = record { status = 201; tag = None; app = None; shown = Nothing; names = []; location = l; change = c; tree = t }

-- 204, for what replaced or removed an entry or a list: there is no body and no location
abbrev pub done : Change → Tree → Outcome
done c t = record { status = 204; tag = None; app = None; shown = Nothing; names = []; location = Nowhere; change = c; tree = t }

-- a refusal with its status and error tags; it shows and changes nothing
abbrev pub refused : ℕ → Tag → App → Tree → Outcome
refused status tag app t =
    record {
      status = status;
      tag = Some tag;
      app = Some app;
      shown = Nothing;
      names = [];
      location = Nowhere;
      change = changes.Nothing;
      tree = t;
    }

-- a name that is there, an SPI that an inbound half has, and a list that is full
abbrev pub exists : Tree → Outcome
exists t = refused 409 tags.ResourceDenied apps.Exists t

-- an inbound half has the SPI of the one that is put
abbrev pub spi_taken : Tree → Outcome
spi_taken t = refused 409 tags.ResourceDenied apps.SpiTaken t

-- the database has no room for one entry more
abbrev pub full : Tree → Outcome
full t = refused 409 tags.ResourceDenied apps.Full t

-- a name that isn't there, of the request and of its point
abbrev pub absent : Tree → Outcome
absent t = refused 404 tags.InvalidValue apps.Absent t

-- the policy that `point` names isn't there
abbrev pub no_point : Tree → Outcome
no_point t = refused 400 tags.InvalidValue apps.Point t

-- ---- policies

-- the databases with this list of policies
abbrev pub with_spd : Tree → List SpdEntry → Tree
with_spd t list = record { spd = list; sad = t.sad }

-- some policy of the list has this name
abbrev pub has_policy : List ℕ → List SpdEntry → Bool
has_policy name list = list_any (is_named name) list

-- the list has the 256 policies that a gateway may hold
abbrev pub is_spd_full : List SpdEntry → Bool
is_spd_full list = nat_le 256 (length list)

-- the point of a place is there
abbrev pub has_point : Place → List SpdEntry → Bool
has_point (places.Before name) list = has_policy name list
has_point (places.After name) list = has_policy name list
has_point _ list = true

-- the entry stands directly before the one of this name, or last where there is none
abbrev pub put_before : List ℕ → SpdEntry → List SpdEntry → List SpdEntry
put_before name e [] = e ∷ []
put_before name e (x ∷ list) = if is_named name x then e ∷ x ∷ list else x ∷ put_before name e list

-- the entry stands directly behind the one of this name, or last where there is none
abbrev pub put_after : List ℕ → SpdEntry → List SpdEntry → List SpdEntry
put_after name e [] = e ∷ []
put_after name e (x ∷ list) = if is_named name x then x ∷ e ∷ list else x ∷ put_after name e list

-- the list with one more entry at its place
abbrev pub put_at : Place → SpdEntry → List SpdEntry → List SpdEntry
put_at places.First e list = e ∷ list
put_at places.Last e list = list ++ e ∷ []
put_at (places.Before name) e list = put_before name e list
put_at (places.After name) e list = put_after name e list

-- the entry of the same name is replaced
abbrev pub replaced : SpdEntry → List SpdEntry → List SpdEntry
replaced e list = map (λ x. if is_named e.name x then e else x) list

-- the list without the policy of this name
abbrev pub without_policy : List ℕ → List SpdEntry → List SpdEntry
without_policy name list = filter (λ x. not (is_named name x)) list

-- a new policy at its place: refused first for its name, then for room, then for its point
abbrev pub post_spd : Tree → SpdEntry → Place → Outcome
post_spd t e place =
    if has_policy e.name t.spd then exists t
    else if is_spd_full t.spd then full t
    else if not (has_point place t.spd) then no_point t
    else made (At_policy e.name) changes.Spd (with_spd t (put_at place e t.spd))

-- a policy in the place of the one of its name, or behind all others where none has it and there is room
abbrev pub put_spd_entry : Tree → SpdEntry → Outcome
put_spd_entry t e =
    if has_policy e.name t.spd then done changes.Spd (with_spd t (replaced e t.spd))
    else if is_spd_full t.spd then full t
    else made (At_policy e.name) changes.Spd (with_spd t (t.spd ++ e ∷ []))

-- the policy of this name is removed
abbrev pub delete_spd_entry : Tree → List ℕ → Outcome
delete_spd_entry t name = if has_policy name t.spd then done changes.Spd (with_spd t (without_policy name t.spd)) else absent t

-- the policy that was asked for, or 404
abbrev pub show_policy : Tree → Option SpdEntry → Outcome
show_policy t None = absent t
show_policy t (Some e) = shows t (Policy e)

-- ---- associations

-- the databases with these halves
abbrev pub with_sad : Tree → List SadRow → Tree
with_sad t rows = record { spd = t.spd; sad = rows }

-- the half has this name
abbrev pub is_row : List ℕ → SadRow → Bool
is_row name r = bytes_eq r.entry.name name

-- the names of the halves, in their order
abbrev pub row_names : List SadRow → List (List ℕ)
row_names rows = map (λ r. r.entry.name) rows

-- an inbound association has this SPI
abbrev pub has_spi : ℕ → List SadRow → Bool
has_spi spi rows = list_any (λ r. is_inbound r.entry.name && (r.entry.spi == spi)) rows

-- there are the 4,096 halves that a gateway may hold
abbrev pub is_sad_full : List SadRow → Bool
is_sad_full rows = nat_le 4096 (length rows)

-- an association that was not used yet
abbrev pub no_counts : Limits
no_counts = record { time = 0; bytes = 0; packets = 0; idle = 0 }

-- a half directly after its installation: all counts are 0
abbrev pub new_row : SadEntry → SadRow
new_row e = record { entry = e; state = record { current = no_counts; top = 0 } }

-- the halves without the one of this name
abbrev pub without_row : List ℕ → List SadRow → List SadRow
without_row name rows = filter (λ r. not (is_row name r)) rows

-- a new half behind all others: refused first for its name, then for the SPI of an inbound one, then for room
abbrev pub post_sad : Tree → SadEntry → Outcome
post_sad t e =
    if list_any (is_row e.name) t.sad then exists t
    else if is_inbound e.name && has_spi e.spi t.sad then spi_taken t
    else if is_sad_full t.sad then full t
    else made (At_half e.name) (changes.Put e) (with_sad t (t.sad ++ new_row e ∷ []))

-- the half of this name is removed
abbrev pub delete_sad : Tree → List ℕ → Outcome
delete_sad t name = if list_any (is_row name) t.sad then done (changes.Gone name) (with_sad t (without_row name t.sad)) else absent t

-- the half that was asked for with its counts, or 404
abbrev pub show_half : Tree → Option SadRow → Outcome
show_half t None = absent t
show_half t (Some r) = shows t (Half r)

-- all halves with their counts, and their names
abbrev pub get_sad : Tree → Outcome
get_sad t = record {
  status = 200;
  tag = None;
  app = None;
  shown = Halves t.sad;
  names = row_names t.sad;
  location = Nowhere;
  change =
      changes.Nothing;
  tree = t;
}

-- the reply to a request that was read, over these databases
unfoldable pub reply : Tree → Ask → Outcome
reply t asks.GetSpd = shows t (Policies t.spd)
reply t (asks.PutSpd list) = done changes.Spd (with_spd t list)
reply t (asks.PostSpd e place) = post_spd t e place
reply t (asks.GetSpdEntry name) = show_policy t (find (is_named name) t.spd)
reply t (asks.PutSpdEntry e) = put_spd_entry t e
reply t (asks.DeleteSpdEntry name) = delete_spd_entry t name
reply t asks.GetSad = get_sad t
reply t (asks.PostSad e) = post_sad t e
reply t (asks.GetSadEntry name) = show_half t (find (is_row name) t.sad)
reply t (asks.DeleteSad name) = delete_sad t name

-- ---- what a change says of the databases before it

-- An association that is put has a name that none has, and where it is inbound an SPI that no inbound one has, and there is room.
-- One that is gone was there.
abbrev pub Fits : Tree → Change → Type 0
Fits t changes.Nothing = Unit {0}
Fits t changes.Spd = Unit {0}
Fits t (changes.Put e) = (list_any (is_row e.name) t.sad ≡ false) × ((is_inbound e.name && has_spi e.spi t.sad) ≡ false)
    × (is_sad_full t.sad ≡ false)
Fits t (changes.Gone name) = list_any (is_row name) t.sad ≡ true

-- ---- what a change says of the databases after it

-- a reply that made or replaced something says so by its status: 201 or 204
abbrev pub is_done : ℕ → Bool
is_done status = (status == 201) || (status == 204)

-- the databases after it are those before it with the change alone
abbrev pub Makes : Tree → Outcome → Change → Type 0
Makes t r changes.Nothing = (is_done r.status ≡ false) × (r.tree ≡ t)
Makes t r changes.Spd = (is_done r.status ≡ true) × (r.tree ≡ with_spd t r.tree.spd)
Makes t r (changes.Put e) = (is_done r.status ≡ true) × (r.tree ≡ with_sad t (t.sad ++ new_row e ∷ []))
Makes t r (changes.Gone name) = (is_done r.status ≡ true) × (r.tree ≡ with_sad t (without_row name t.sad))
