-- The line that `client` prints.
use Rattle.std.specs.Prelude.{ℕ, List, [], ◌∷◌, ◌++◌, Option, Some, None}
use Rattle.std.specs.Fmt.{decimal}
use Rattle.ikeless_tree.specs.declared.error.App.{App}
use Rattle.ikeless_tree.specs.declared.error.Tag.{Tag}
use Rattle.ikeless_tree.specs.Words.{app_text, tag_text}
use Rattle.line_words.specs.Text.{spaced}
use Rattle.rc_operations.specs.declared.told.Told.{Told}

-- the error-tag of an error; none where the command was accepted
abbrev pub tag_words : Option Tag → List (List ℕ)
tag_words None = []
tag_words (Some tag) = tag_text tag ∷ []

-- the error-app-tag of an error, which says why the controller refused; none where there is none
abbrev pub app_words : Option App → List (List ℕ)
app_words None = []
app_words (Some app) = app_text app ∷ []

-- the status, and for an error its tag and its app tag, each after a space
abbrev pub told_line : Told → List ℕ
told_line told = decimal told.status ++ (spaced (tag_words told.tag) ++ (spaced (app_words told.app) ++ 10 ∷ []))
