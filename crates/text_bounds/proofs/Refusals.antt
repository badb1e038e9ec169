-- What refuses a request is sound.
use Rattle.std.proofs.Common.{◌≡◌, ℕ, Bool, true, false, List, codes, cond, is_some, Option, Some, None, Result, Ok, Err, IsUtf8, subst, refl, arith}
use Rattle.std.specs.Prelude.{IfSome}
use Rattle.std.specs.Str.{bytes_eq}
use Rattle.std.proofs.lemmas.Bool.{false≢true}
use Rattle.json.proofs.Printed.Utf8.{IsUtf8-are_ascii}
use Rattle.serde_json.specs.Data.{Data}
use Rattle.ikeless_tree.specs.declared.entry.SpdEntry.{SpdEntry}
use Rattle.ikeless_tree.specs.declared.error.App.{App}
use Rattle.ikeless_tree.specs.declared.error.Tag.{Tag}
use Rattle.json_values.specs.declared.fault.CodecFault.{CodecFault}
use Rattle.json_values.specs.declared.fault.Fault.{Fault}
use Rattle.json_values.specs.declared.fault.Kind.{Kind}
use Rattle.json_values.specs.declared.fault.Kind.TheVariants as kinds
use Rattle.json_values.specs.Faults.{app_of, told}
use Rattle.json_tree.specs.PolicyRead.{one_spd_entry_in, spd_in}
use Rattle.json_tree.specs.SadEntryRead.{one_sad_entry_in}
use Rattle.json_codec.specs.Bodies.{body_read, json_of, sad_entry_of, spd_entry_of, spd_of}
use Rattle.reply_table.specs.declared.ask.Ask.{Ask}
use Rattle.reply_table.specs.declared.ask.Ask.TheVariants as asks
use Rattle.reply_table.specs.declared.ask.Place.{Place}
use Rattle.rc_http.specs.declared.message.HttpFault.{HttpFault}
use Rattle.rc_http.specs.declared.message.HttpFault.TheVariants as faults
use Rattle.rc_http.specs.declared.message.HttpMessage.{HttpMessage}
use Rattle.rc_request.specs.declared.error.RcError.{RcError}
use Rattle.rc_request.specs.declared.resource.Resource.{Resource}
use Rattle.rc_request.specs.declared.resource.Resource.TheVariants as resources
use Rattle.rc_request.specs.Operations.{allow_text, method_of, operation_by}
use Rattle.rc_request.specs.Paths.{resource_of}
use Rattle.rc_request.specs.Queries.{before_mark, behind_mark, place_of}
use Rattle.rc_request.specs.Requests.{asked, at_place, body_status, by_operation, by_resource, if_named, no_message, no_method, of_body, other_name, plain_ask, plain_error, posted, request_of, unless_query}
use Rattle.text_bounds.proofs.Errors.{IsAllowed, IsShort, IsSound, Allowed, Plain, sound_path, status_400, status_404, status_409, status_413, status_501}
use Rattle.text_bounds.proofs.Fields.{IsPlainStatus}
use Rattle.text_bounds.proofs.Pointers.{IsGood, good_sad_entry, good_spd, good_spd_entry}

-- ---- what is asked, or a sound refusal

abbrev Holds : Result Ask RcError → Type 0
Holds (Ok ask) = Unit {0}
Holds (Err e) = IsSound e

record AreSound (r : Result Ask RcError) : Type 0 where
  pub is : Holds r

asks_something : (ask : Ask) → AreSound (Ok ask)
asks_something ask = record { is = tt }

refuses_plainly : (status : ℕ) (tag : Tag) (app : App) → IsPlainStatus status → AreSound (Err (plain_error status tag app))
refuses_plainly status tag app s = record { is = Plain tt s }

-- ---- bodies

kind_status : (kind : Kind) → IsPlainStatus (body_status (app_of kind))
kind_status kinds.Unknown = status_400
kind_status kinds.Missing = status_400
kind_status kinds.Form = status_400
kind_status kinds.Range = status_400
kind_status kinds.Unsupported = status_400
kind_status kinds.Name = status_400
kind_status kinds.Full = status_409

abbrev Reads : {A : Type 0} → Result A CodecFault → Type 0
Reads (Ok x) = Unit {0}
Reads (Err f) = IsSound (of_body f)

record IsBody {A : Type 0} (r : Result A CodecFault) : Type 0 where
  pub is : Reads r

told_body : {A : Type 0} (r : Result A Fault) → IsGood 230 r → IsBody (told r)
told_body (Ok x) g = record { is = tt }
told_body (Err f) g = record { is = Plain g.is (kind_status f.kind) }

read_body : {A : Type 0} (f : Data → Result A Fault) → ((d : Data) → IsGood 230 (f d)) → (o : Option Data) → IsBody (body_read f o)
read_body f g None = record { is = Plain tt status_400 }
read_body f g (Some d) = told_body (f d) (g d)

list_body : (body : List ℕ) → IsBody (spd_of body)
list_body body = read_body spd_in good_spd (json_of body)

entry_body : (body : List ℕ) → IsBody (spd_entry_of body)
entry_body body = read_body one_spd_entry_in good_spd_entry (json_of body)

half_body : (body : List ℕ) → IsBody (sad_entry_of body)
half_body body = read_body one_sad_entry_in good_sad_entry (json_of body)

sound_asked : {A : Type 0} (ask : A → Ask) (r : Result A CodecFault) → IsBody r → AreSound (asked ask r)
sound_asked ask (Ok x) g = record { is = tt }
sound_asked ask (Err f) g = record { is = g.is }

sound_posted : (place : Place) (r : Result SpdEntry CodecFault) → IsBody r → AreSound (posted place r)
sound_posted place (Ok e) g = record { is = tt }
sound_posted place (Err f) g = record { is = g.is }

named_by : (e : SpdEntry) (b : Bool) → AreSound (cond b (Ok (asks.PutSpdEntry e)) (Err other_name))
named_by e true = record { is = tt }
named_by e false = record { is = Plain tt status_400 }

sound_named : (name : List ℕ) (r : Result SpdEntry CodecFault) → IsBody r → AreSound (if_named name r)
sound_named name (Ok e) g = named_by e (bytes_eq e.name name)
sound_named name (Err f) g = record { is = g.is }

-- ---- requests

-- an operation without a query; one with a query is refused
sound_unless : (op : _) (query : Option (List ℕ)) (body : List ℕ) → AreSound (plain_ask op body) → AreSound (unless_query op query body)
sound_unless op None body g = g
sound_unless op (Some query) body g = record { is = Plain tt status_400 }

sound_place : (place : Option Place) (body : List ℕ) → AreSound (at_place place body)
sound_place None body = record { is = Plain tt status_400 }
sound_place (Some place) body = sound_posted place (spd_entry_of body) (entry_body body)

allowed : (r : Resource) → IsAllowed (no_method (allow_text r))
allowed resources.Spd = record { status = refl; value = refl; size = omega arith }
allowed (resources.SpdEntry name) = record { status = refl; value = refl; size = omega arith }
allowed resources.Sad = record { status = refl; value = refl; size = omega arith }
allowed (resources.SadEntry name) = record { status = refl; value = refl; size = omega arith }

-- what is there
abbrev taken : {X : Type 0} (o : Option X) → is_some o ≡ true → X
taken None e = absurd (false≢true e)
taken (Some x) e = x

-- each resource by the method

on_spd : (m : HttpMessage) (get put post delete : Bool) → bytes_eq m.method (codes "GET") ≡ get → bytes_eq m.method (codes "PUT") ≡ put
    → bytes_eq m.method (codes "POST") ≡ post
    → bytes_eq m.method (codes "DELETE") ≡ delete → AreSound (by_operation resources.Spd (operation_by resources.Spd
    (method_of m.method)) m)
unfolding method_of
on_spd m true put post delete a b c d = rw a (sound_unless (taken (operation_by resources.Spd (method_of (codes "GET"))) refl)
    (behind_mark 63 m.target) m.body (asks_something asks.GetSpd))
on_spd m false true post delete a b c d = rw (a, b) (sound_unless (taken (operation_by resources.Spd (method_of (codes "PUT"))) refl)
    (behind_mark 63 m.target) m.body (sound_asked asks.PutSpd (spd_of m.body) (list_body m.body)))
on_spd m false false true delete a b c d = rw (a, b, c) (sound_place (place_of (behind_mark 63 m.target)) m.body)
on_spd m false false false true a b c d = rw (a, b, c, d) (record { is = Allowed tt (allowed resources.Spd) })
on_spd m false false false false a b c d = rw (a, b, c, d) (record { is = Allowed tt (allowed resources.Spd) })

on_spd_entry : (name : List ℕ) (m : HttpMessage) (get put post delete : Bool) → bytes_eq m.method (codes "GET") ≡ get
    → bytes_eq m.method (codes "PUT") ≡ put → bytes_eq m.method (codes "POST") ≡ post
    → bytes_eq m.method (codes "DELETE") ≡ delete → AreSound (by_operation (resources.SpdEntry name) (operation_by
    (resources.SpdEntry name) (method_of m.method)) m)
unfolding method_of
on_spd_entry name m true put post delete a b c d = rw a (sound_unless (taken (operation_by (resources.SpdEntry name) (method_of
    (codes "GET"))) refl) (behind_mark 63 m.target) m.body (asks_something (asks.GetSpdEntry name)))
on_spd_entry name m false true post delete a b c d = rw (a, b) (sound_unless (taken (operation_by (resources.SpdEntry name) (method_of
    (codes "PUT"))) refl) (behind_mark 63 m.target) m.body (sound_named name (spd_entry_of m.body) (entry_body m.body)))
on_spd_entry name m false false true delete a b c d = rw (a, b, c) (record { is = Allowed tt (allowed (resources.SpdEntry name)) })
on_spd_entry name m false false false true a b c d = rw (a, b, c, d) (sound_unless (taken (operation_by (resources.SpdEntry name)
    (method_of (codes "DELETE"))) refl) (behind_mark 63 m.target) m.body (asks_something (asks.DeleteSpdEntry name)))
on_spd_entry name m false false false false a b c d = rw (a, b, c, d) (record { is = Allowed tt (allowed (resources.SpdEntry name)) })

on_sad : (m : HttpMessage) (get put post delete : Bool) → bytes_eq m.method (codes "GET") ≡ get → bytes_eq m.method (codes "PUT") ≡ put
    → bytes_eq m.method (codes "POST") ≡ post
    → bytes_eq m.method (codes "DELETE") ≡ delete → AreSound (by_operation resources.Sad (operation_by resources.Sad
    (method_of m.method)) m)
unfolding method_of
on_sad m true put post delete a b c d = rw a (sound_unless (taken (operation_by resources.Sad (method_of (codes "GET"))) refl)
    (behind_mark 63 m.target) m.body (asks_something asks.GetSad))
on_sad m false true post delete a b c d = rw (a, b) (record { is = Allowed tt (allowed resources.Sad) })
on_sad m false false true delete a b c d = rw (a, b, c) (sound_unless (taken (operation_by resources.Sad (method_of
    (codes "POST"))) refl) (behind_mark 63 m.target) m.body (sound_asked asks.PostSad (sad_entry_of m.body) (half_body m.body)))
on_sad m false false false true a b c d = rw (a, b, c, d) (record { is = Allowed tt (allowed resources.Sad) })
on_sad m false false false false a b c d = rw (a, b, c, d) (record { is = Allowed tt (allowed resources.Sad) })

on_sad_entry : (name : List ℕ) (m : HttpMessage) (get put post delete : Bool) → bytes_eq m.method (codes "GET") ≡ get
    → bytes_eq m.method (codes "PUT") ≡ put → bytes_eq m.method (codes "POST") ≡ post
    → bytes_eq m.method (codes "DELETE") ≡ delete → AreSound (by_operation (resources.SadEntry name) (operation_by
    (resources.SadEntry name) (method_of m.method)) m)
unfolding method_of
on_sad_entry name m true put post delete a b c d = rw a (sound_unless (taken (operation_by (resources.SadEntry name) (method_of
    (codes "GET"))) refl) (behind_mark 63 m.target) m.body (asks_something (asks.GetSadEntry name)))
on_sad_entry name m false true post delete a b c d = rw (a, b) (record { is = Allowed tt (allowed (resources.SadEntry name)) })
on_sad_entry name m false false true delete a b c d = rw (a, b, c) (record { is = Allowed tt (allowed (resources.SadEntry name)) })
on_sad_entry name m false false false true a b c d = rw (a, b, c, d) (sound_unless (taken (operation_by (resources.SadEntry name)
    (method_of (codes "DELETE"))) refl) (behind_mark 63 m.target) m.body (asks_something (asks.DeleteSad name)))
on_sad_entry name m false false false false a b c d = rw (a, b, c, d) (record { is = Allowed tt (allowed (resources.SadEntry name)) })

sound_resource : (r : Option Resource) (m : HttpMessage) → AreSound (by_resource r m)
sound_resource None m = record { is = Plain tt status_404 }
sound_resource (Some resources.Spd) m = on_spd m _ _ _ _ refl refl refl refl
sound_resource (Some (resources.SpdEntry name)) m = on_spd_entry name m _ _ _ _ refl refl refl refl
sound_resource (Some resources.Sad) m = on_sad m _ _ _ _ refl refl refl refl
sound_resource (Some (resources.SadEntry name)) m = on_sad_entry name m _ _ _ _ refl refl refl refl

sound_request : (m : HttpMessage) → AreSound (request_of m)
unfolding request_of
sound_request m = sound_resource (resource_of (before_mark 63 m.target)) m

by_result : (r : Result Ask RcError) (e : RcError) → AreSound r → r ≡ Err e → IsSound e
by_result (Ok ask) e g is = absurd (let no : ⊥ = cc in no)
by_result (Err f) e g is = subst_error f e g.is (let same : f ≡ e = cc in same)
  where
    subst_error : (f e : RcError) → IsSound f → f ≡ e → IsSound e
    subst_error f e sound same = subst IsSound same sound

pub sound_refusal : (m : HttpMessage) (e : RcError) → request_of m ≡ Err e → IsSound e
sound_refusal m e is = by_result (request_of m) e (sound_request m) is

pub sound_fault : (f : HttpFault) → IsSound (no_message f)
sound_fault faults.Head = Plain tt status_400
sound_fault faults.Version = Plain tt status_400
sound_fault faults.Chunked = Plain tt status_501
sound_fault faults.TooBig = Plain tt status_413

short_text : (path : Option (List ℕ)) → IsShort path → IfSome path IsUtf8
short_text None short = tt
short_text (Some pointer) short = IsUtf8-are_ascii pointer short.octets

pub refusal_text : (m : HttpMessage) (e : RcError) → request_of m ≡ Err e → IfSome e.path IsUtf8
refusal_text m e is = short_text e.path (sound_path e (sound_refusal m e is))
