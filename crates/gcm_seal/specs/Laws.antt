-- What holds of GCM over every block cipher e.
use Rattle.std.specs.Prelude.{◌≡◌, ℕ, List}
use Rattle.gcm_seal.specs.Gcm.{Opens, sealed, tag_of}

-- the seal of p opens to p
abbrev pub SealsOpen : Type 0
SealsOpen = (e : List ℕ → List ℕ) (nonce aad p : List ℕ) → let c = sealed e nonce p in Opens e nonce aad c (tag_of e nonce aad c) p

-- what c opens to is the sum of c and the stream, and nothing else
abbrev pub OpensOnce : Type 0
OpensOnce = (e : List ℕ → List ℕ) (nonce aad c t p : List ℕ) → Opens e nonce aad c t p → p ≡ sealed e nonce c

-- c opens exactly where the tag is right
abbrev pub TagsOpen : Type 0
TagsOpen = (e : List ℕ → List ℕ) (nonce aad c t : List ℕ) → t ≡ tag_of e nonce aad c → Opens e nonce aad c t (sealed e nonce c)
