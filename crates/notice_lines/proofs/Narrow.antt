-- A value that can be read again has numbers of 64 bits and no others.
use Rattle.serde_json.specs.Data.{Data, null, boolean, number, unsigned, negative, float, string, array, object, Items, no_items, item, Members, no_members, member}
use Rattle.json_values.proofs.ReadAgain.{IsPlain, ArePlain, HavePlain, IsWritable}
use Rattle.notice_lines.proofs.Text.{HasNarrow, ItemsNarrow, MembersNarrow}

mutual
  narrow : (d : Data) → IsPlain d → HasNarrow d
  narrow null h = tt
  narrow (boolean b) h = tt
  narrow (number (unsigned n)) h = h
  narrow (number (negative z)) h = absurd h
  narrow (number (float x)) h = absurd h
  narrow (string s) h = tt
  narrow (array ds) h = narrow_items ds h
  narrow (object ms) h = narrow_members ms h

  narrow_items : (ds : Items) → ArePlain ds → ItemsNarrow ds
  narrow_items no_items h = tt
  narrow_items (item d ds) h = (narrow d h.0, narrow_items ds h.1)

  narrow_members : (ms : Members) → HavePlain ms → MembersNarrow ms
  narrow_members no_members h = tt
  narrow_members (member k d ms) h = (narrow d h.2, narrow_members ms h.3)

pub narrow_of : (d : Data) → IsWritable d → HasNarrow d
narrow_of d h = narrow d h.plain
