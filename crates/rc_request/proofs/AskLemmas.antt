-- What is read of a request has no fault.
use Rattle.std.proofs.Common.{◌≡◌, ℕ, List, [], ◌∷◌, Bool, true, false, cond, Option, Some, None, Result, Ok, Err, IfOk, refl, subst}
use Rattle.std.specs.Str.{bytes_eq}
use Rattle.ikl_base.specs.Answers.{Gives}
use Rattle.ikl_base.specs.declared.fault.OrMemory.{OrMemory}
use Rattle.ikeless_tree.specs.declared.entry.SpdEntry.{SpdEntry}
use Rattle.ikeless_tree.specs.declared.sad.SadEntry.{SadEntry}
use Rattle.ikeless_tree.specs.Check.{spd_fault, sad_fault}
use Rattle.json_values.specs.declared.fault.CodecFault.{CodecFault}
use Rattle.json_codec.specs.Bodies.{spd_of, spd_entry_of, sad_entry_of}
use Rattle.json_values.specs.Json.{IsSpd, IsOneSpdEntry, IsOneSadEntry}
use Rattle.json_tree.specs.PolicyRead.{spd_in, one_spd_entry_in}
use Rattle.json_tree.specs.SadEntryRead.{one_sad_entry_in}
use Rattle.json_tree.proofs.PolicyLaws.{spd_ok, one_spd_ok}
use Rattle.json_tree.proofs.HalfLaws.{one_sad_ok}
use Rattle.json_codec.proofs.BodyLaws.{body_ok}
use Rattle.rc_http.specs.declared.message.HttpMessage.{HttpMessage}
use Rattle.reply_table.specs.declared.ask.Place.{Place}
use Rattle.reply_table.specs.declared.ask.Place.TheVariants as places
use Rattle.reply_table.specs.declared.ask.Ask.{Ask}
use Rattle.reply_table.specs.declared.ask.Ask.TheVariants as asks
use Rattle.rc_request.specs.declared.error.RcError.{RcError}
use Rattle.rc_request.specs.declared.resource.Resource.{Resource}
use Rattle.rc_request.specs.declared.operation.Operation.{Operation}
use Rattle.rc_request.specs.declared.operation.Operation.TheVariants as operations
use Rattle.rc_request.specs.Asks.{IsAsk}
use Rattle.rc_request.specs.Operations.{method_of, operation_by}
use Rattle.rc_request.specs.Queries.{behind_mark, place_of}
use Rattle.rc_request.specs.Requests.{ask_by, asked, at_place, by_operation, if_named, on_resource, other_name, plain_ask, posted, unless_query}

-- what is asked, if anything, has no fault
abbrev IsRead : Result Ask RcError → Type 0
IsRead (Ok a) = IsAsk a
IsRead (Err e) = Unit {0}

list_passes : (body : List ℕ) (list : List SpdEntry) → spd_of body ≡ Ok list → spd_fault list ≡ None
list_passes body list h = (body_ok spd_in (λ d. IsSpd list d × (spd_fault list ≡ None)) list (λ d k. spd_ok list d k) body h).3.1

entry_passes : (body : List ℕ) (e : SpdEntry) → spd_entry_of body ≡ Ok e → spd_fault (e ∷ []) ≡ None
entry_passes body e h = (body_ok one_spd_entry_in (λ d. IsOneSpdEntry e d × (spd_fault (e ∷ []) ≡ None)) e (λ d k. one_spd_ok e d k) body
    h).3.1

half_passes : (body : List ℕ) (e : SadEntry) → sad_entry_of body ≡ Ok e → sad_fault e ≡ None
half_passes body e h = (body_ok one_sad_entry_in (λ d. IsOneSadEntry e d × (sad_fault e ≡ None)) e (λ d k. one_sad_ok e d k) body h).3.1

asked_list : (read : Result (List SpdEntry) CodecFault) → ((list : List SpdEntry) → read ≡ Ok list → spd_fault list ≡ None)
    → IsRead (asked asks.PutSpd read)
asked_list (Ok list) h = h list refl
asked_list (Err f) h = tt

asked_half : (read : Result SadEntry CodecFault) → ((e : SadEntry) → read ≡ Ok e → sad_fault e ≡ None) → IsRead (asked asks.PostSad read)
asked_half (Ok e) h = h e refl
asked_half (Err f) h = tt

posted_entry : (place : Place) (read : Result SpdEntry CodecFault) → ((e : SpdEntry) → read ≡ Ok e → spd_fault (e ∷ []) ≡ None)
    → IsRead (posted place read)
posted_entry place (Ok e) h = h e refl
posted_entry place (Err f) h = tt

named_entry : (name : List ℕ) (read : Result SpdEntry CodecFault) → ((e : SpdEntry) → read ≡ Ok e → spd_fault (e ∷ []) ≡ None)
    → IsRead (if_named name read)
named_entry name (Ok e) h = by_test (bytes_eq e.name name)
  where
    by_test : (b : Bool) → IsRead (cond b (Ok (asks.PutSpdEntry e)) (Err other_name))
    by_test true = h e refl
    by_test false = tt
named_entry name (Err f) h = tt

plain_read : (op : Operation) (body : List ℕ) → IsRead (plain_ask op body)
plain_read operations.GetSpd body = tt
plain_read operations.PutSpd body = asked_list (spd_of body) (list_passes body)
plain_read operations.PostSpd body = posted_entry places.Last (spd_entry_of body) (entry_passes body)
plain_read (operations.GetSpdEntry name) body = tt
plain_read (operations.PutSpdEntry name) body = named_entry name (spd_entry_of body) (entry_passes body)
plain_read (operations.DeleteSpdEntry name) body = tt
plain_read operations.GetSad body = tt
plain_read operations.PostSad body = asked_half (sad_entry_of body) (half_passes body)
plain_read (operations.GetSadEntry name) body = tt
plain_read (operations.DeleteSad name) body = tt

placed_read : (place : Option Place) (body : List ℕ) → IsRead (at_place place body)
placed_read None body = tt
placed_read (Some place) body = posted_entry place (spd_entry_of body) (entry_passes body)

unless_read : (op : Operation) (query : Option (List ℕ)) (body : List ℕ) → IsRead (unless_query op query body)
unless_read op None body = plain_read op body
unless_read op (Some query) body = tt

operation_read : (op : Operation) (query : Option (List ℕ)) (body : List ℕ) → IsRead (ask_by op query body)
operation_read operations.PostSpd query body = placed_read (place_of query) body
operation_read operations.GetSpd query body = unless_read operations.GetSpd query body
operation_read operations.PutSpd query body = unless_read operations.PutSpd query body
operation_read (operations.GetSpdEntry name) query body = unless_read (operations.GetSpdEntry name) query body
operation_read (operations.PutSpdEntry name) query body = unless_read (operations.PutSpdEntry name) query body
operation_read (operations.DeleteSpdEntry name) query body = unless_read (operations.DeleteSpdEntry name) query body
operation_read operations.GetSad query body = unless_read operations.GetSad query body
operation_read operations.PostSad query body = unless_read operations.PostSad query body
operation_read (operations.GetSadEntry name) query body = unless_read (operations.GetSadEntry name) query body
operation_read (operations.DeleteSad name) query body = unless_read (operations.DeleteSad name) query body

found_read : (r : Resource) (op : Option Operation) (m : HttpMessage) → IsRead (by_operation r op m)
found_read r None m = tt
found_read r (Some op) m = operation_read op (behind_mark 63 m.target) m.body

given : (r : Result Ask (OrMemory RcError)) (stated : Result Ask RcError) → Gives r stated → IsRead stated → IfOk r IsAsk
given (Ok a) stated is read = subst IsRead is read
given (Err e) stated is read = tt

pub given_is_ask : (r : Result Ask (OrMemory RcError)) (place : Resource) (m : HttpMessage) → Gives r (on_resource place m) → IfOk r IsAsk
given_is_ask r place m is = given r (on_resource place m) is (found_read place (operation_by place (method_of m.method)) m)
