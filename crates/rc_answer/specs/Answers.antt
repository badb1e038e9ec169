-- What the response to an order says: its status, and what is read of its body (RFC 8040 sections 4.3 and 7.1). Which
-- statuses an order has is of this project.
use Rattle.std.specs.Prelude.{ℕ, ◌==◌, ◌||◌, Bool, List, [], ◌∷◌, codes, if◌then◌else◌, Option, Some, None, Result, Ok, Err}
use Rattle.serde_json.specs.Data.{Data, Items, no_items, item}
use Rattle.serde_json.specs.Find.{get, as_array}
use Rattle.ikeless_tree.specs.declared.order.Answer.{Answer}
use Rattle.ikeless_tree.specs.declared.order.Order.{Order}
use Rattle.ikeless_tree.specs.declared.order.Order.TheVariants as orders
use Rattle.ikeless_tree.specs.declared.error.Tag.{Tag}
use Rattle.ikeless_tree.specs.declared.error.App.{App}
use Rattle.ikeless_tree.specs.Check.{is_sad_name}
use Rattle.ikeless_tree.specs.Words.{tag_of, app_of}
use Rattle.json_codec.specs.Bodies.{json_of}
use Rattle.json_values.specs.Faults.{◌>>=◌}
use Rattle.json_values.specs.Leaves.{needed_text}
use Rattle.json_values.specs.Shapes.{only_in}
use Rattle.rc_http.specs.declared.message.HttpMessage.{HttpMessage}
use Rattle.rc_answer.specs.declared.answer.BadAnswer.{BadAnswer}
use Rattle.rc_answer.specs.declared.answer.ErrorTags.{ErrorTags}

-- the answer to a response that isn't one to its order
abbrev pub bad : BadAnswer
bad = record {}

-- what isn't there makes a bad answer
abbrev pub or_bad : {A : Type 0} → Option A → Result A BadAnswer
or_bad None = Err bad
or_bad (Some x) = Ok x

-- whatever else may be wrong
abbrev pub or_only_bad : {A E : Type 0} → Result A E → Result A BadAnswer
or_only_bad (Ok x) = Ok x
or_only_bad (Err e) = Err bad

-- ---- bodies

-- the value of an object's only member
abbrev pub sole : List ℕ → Data → Result Data BadAnswer
sole name d = or_only_bad (only_in name d)

-- the text that a member of this name holds, which has to be there and be a string
abbrev pub member_text : List ℕ → Data → Result (List ℕ) BadAnswer
member_text name d = or_only_bad (needed_text (get name d))

-- the items of a JSON array
abbrev pub items_in : Data → Result Items BadAnswer
items_in d = or_bad (as_array d)

-- a text that is the name of a half
abbrev pub half_named : List ℕ → Result (List ℕ) BadAnswer
half_named name = if is_sad_name name then Ok name else Err bad

-- the name of a half that is shown
abbrev pub name_in : Data → Result (List ℕ) BadAnswer
name_in d = member_text (codes "name") d >>= half_named

-- the names of all items, in order
abbrev pub names_in : Items → Result (List (List ℕ)) BadAnswer
names_in no_items = Ok []
names_in (item d ds) = name_in d >>= (λ name. names_in ds >>= (λ names. Ok (name ∷ names)))

-- the names of the halves that a body shows
abbrev pub halves_in : Data → Result (List (List ℕ)) BadAnswer
halves_in d = sole (codes "ietf-i2nsf-ikeless:sad") d >>= sole (codes "sad-entry") >>= items_in >>= names_in

-- the only item of a list
abbrev pub one_in : Items → Result Data BadAnswer
one_in (item d no_items) = Ok d
one_in ds = Err bad

-- the tag of an error (RFC 8040 section 7.1)
abbrev pub tag_in : Data → Result Tag BadAnswer
tag_in d = member_text (codes "error-tag") d >>= (λ text. or_bad (tag_of text))

-- the app tag of an error
abbrev pub app_in : Data → Result App BadAnswer
app_in d = member_text (codes "error-app-tag") d >>= (λ text. or_bad (app_of text))

-- both tags of an error
abbrev pub tags_in : Data → Result ErrorTags BadAnswer
tags_in d = tag_in d >>= (λ tag. app_in d >>= (λ app. Ok (record { tag = tag; app = app })))

-- the tags of the one error that a body has
abbrev pub error_in : Data → Result ErrorTags BadAnswer
error_in d = sole (codes "ietf-restconf:errors") d >>= sole (codes "error") >>= items_in >>= one_in >>= tags_in

-- the names that a body shows, and its error
unfoldable pub names_of : List ℕ → Result (List (List ℕ)) BadAnswer
names_of body = or_bad (json_of body) >>= halves_in

-- the tags of the one error of a body in JSON
unfoldable pub error_of : List ℕ → Result ErrorTags BadAnswer
error_of body = or_bad (json_of body) >>= error_in

-- ---- answers

-- 200, with these names of halves
abbrev pub shown : List (List ℕ) → Answer
shown names = record { status = 200; tag = None; names = names }

-- what was ordered is done, with this status
abbrev pub done : ℕ → Answer
done status = record { status = status; tag = None; names = [] }

-- what was ordered is refused, with the tag of the error; the app tag isn't part of an answer
abbrev pub refused : ℕ → ErrorTags → Answer
refused status found = record { status = status; tag = Some found.tag; names = [] }

-- the answer to a reading
abbrev pub reading_of : HttpMessage → Result Answer BadAnswer
reading_of m = if m.status == 200 then names_of m.body >>= (λ names. Ok (shown names)) else Err bad

-- the answer to a list of policies
abbrev pub policies_of : HttpMessage → Result Answer BadAnswer
policies_of m = if m.status == 204 then Ok (done 204) else Err bad

-- the answer to an order that is done with one status, or refused with another
abbrev pub refusal_of : ℕ → HttpMessage → Result Answer BadAnswer
refusal_of status m = if m.status == status then error_of m.body >>= (λ found. Ok (refused status found)) else Err bad

-- the answer to a put or a removal: one status where it was done, one where it was refused
abbrev pub change_of : ℕ → ℕ → HttpMessage → Result Answer BadAnswer
change_of success failure m = if m.status == success then Ok (done success) else refusal_of failure m

-- the answer that a response to this order says, unless it is a bad one
abbrev pub answer_of : Order → HttpMessage → Result Answer BadAnswer
answer_of orders.Read m = reading_of m
answer_of (orders.Policy list) m = policies_of m
answer_of (orders.Put e) m = change_of 201 409 m
answer_of (orders.Remove name) m = change_of 204 404 m

-- the statuses of the answers to an order
abbrev pub is_status_of : Order → ℕ → Bool
is_status_of orders.Read status = status == 200
is_status_of (orders.Policy list) status = status == 204
is_status_of (orders.Put e) status = (status == 201) || (status == 409)
is_status_of (orders.Remove name) status = (status == 204) || (status == 404)
