-- Which methods a resource has (RFC 8040 section 4), of this project.
use Rattle.std.specs.Prelude.{ℕ, List, [], ◌∷◌, ◌++◌, map, filter, codes, if◌then◌else◌, Option, Some, None, is_some}
use Rattle.std.specs.Str.{bytes_eq}
use Rattle.rc_request.specs.declared.operation.Method.{Method}
use Rattle.rc_request.specs.declared.operation.Method.TheVariants as methods
use Rattle.rc_request.specs.declared.operation.Operation.{Operation}
use Rattle.rc_request.specs.declared.operation.Operation.TheVariants as operations
use Rattle.rc_request.specs.declared.resource.Resource.{Resource}
use Rattle.rc_request.specs.declared.resource.Resource.TheVariants as resources

-- the method as the request line has it (RFC 9110 section 9.3)
abbrev pub method_text : Method → List ℕ
method_text methods.Get = codes "GET"
method_text methods.Put = codes "PUT"
method_text methods.Post = codes "POST"
method_text methods.Delete = codes "DELETE"

-- the method of a token; any other has none
unfoldable pub method_of : List ℕ → Option Method
method_of text =
    if bytes_eq text (method_text methods.Get) then Some methods.Get
    else if bytes_eq text (method_text methods.Put) then Some methods.Put
    else if bytes_eq text (method_text methods.Post) then Some methods.Post
    else if bytes_eq text (method_text methods.Delete) then Some methods.Delete
    else None

-- of the list of all policies: it is read, replaced, and an entry added to it
abbrev pub on_spd : Method → Option Operation
on_spd methods.Get = Some operations.GetSpd
on_spd methods.Put = Some operations.PutSpd
on_spd methods.Post = Some operations.PostSpd
on_spd methods.Delete = None

-- of one policy: it is read, put and removed
abbrev pub on_spd_entry : List ℕ → Method → Option Operation
on_spd_entry name methods.Get = Some (operations.GetSpdEntry name)
on_spd_entry name methods.Put = Some (operations.PutSpdEntry name)
on_spd_entry name methods.Post = None
on_spd_entry name methods.Delete = Some (operations.DeleteSpdEntry name)

-- of the list of all halves: it is read, and a half added to it
abbrev pub on_sad : Method → Option Operation
on_sad methods.Get = Some operations.GetSad
on_sad methods.Put = None
on_sad methods.Post = Some operations.PostSad
on_sad methods.Delete = None

-- of one half: it is read and removed, and never replaced
abbrev pub on_sad_entry : List ℕ → Method → Option Operation
on_sad_entry name methods.Get = Some (operations.GetSadEntry name)
on_sad_entry name methods.Put = None
on_sad_entry name methods.Post = None
on_sad_entry name methods.Delete = Some (operations.DeleteSad name)

-- what a method does to a resource that has it
abbrev pub operation_of : Resource → Method → Option Operation
operation_of resources.Spd method = on_spd method
operation_of (resources.SpdEntry name) method = on_spd_entry name method
operation_of resources.Sad method = on_sad method
operation_of (resources.SadEntry name) method = on_sad_entry name method

-- the same of a token that may be no method
abbrev pub operation_by : Resource → Option Method → Option Operation
operation_by r None = None
operation_by r (Some method) = operation_of r method

-- texts with a comma and a space between them
abbrev pub joined : List (List ℕ) → List ℕ
joined [] = []
joined (t ∷ []) = t
joined (t ∷ u ∷ ts) = t ++ codes ", " ++ joined (u ∷ ts)

-- the methods of a resource, as Allow has them (RFC 9110 section 10.2.1)
abbrev pub allow_text : Resource → List ℕ
allow_text r = joined (map method_text (filter (λ method. is_some (operation_of r method)) (methods.Get ∷ methods.Put ∷ methods.Post
    ∷ methods.Delete ∷ [])))
