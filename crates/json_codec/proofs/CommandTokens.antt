-- The tokens of what is written for a tunnel, from those of its parts.
use Rattle.std.proofs.Common.{◌≡◌, ℕ, Bool, true, false, List, [], ◌∷◌, ◌++◌, if◌then◌else◌, codes, refl, sym, ap, ◌∙◌, append-nil}
use Rattle.json.specs.Token.{Token, begin_object, end_object}
use Rattle.serde_json.specs.Data.{Data, string, object, no_members, put}
use Rattle.ikeless_tree.specs.declared.command.TunnelSpec.{TunnelSpec}
use Rattle.ikeless_tree.specs.Words.{mode_text}
use Rattle.yang_values.specs.Prefixes.{prefix_text}
use Rattle.json_values.specs.Written.{count, wide, word}
use Rattle.json_values.specs.Tokens.{value_tokens, member_tokens, tokens_of_members}
use Rattle.json_values.proofs.ReadAgain.{joined}
use Rattle.json_values.proofs.TokenLemmas.{three_parts}
use Rattle.json_tree.specs.SadEntryWritten.{limits_members, has_no_limits, with_lifetime}
use Rattle.json_codec.specs.CommandWritten.{with_first, with_second, tunnel_input}

second_by : (s : Bool) (soft : Data) (t : TunnelSpec)
    → member_tokens (codes "reqid") (wide t.reqid) ++ (member_tokens (codes "second") (string t.second) ++
    (member_tokens (codes "second-prefix") (string (prefix_text t.second_prefix))
    ++ tokens_of_members (if s then no_members else put (codes "soft") soft no_members)))
    ≡ tokens_of_members (put (codes "reqid") (wide t.reqid) (put (codes "second") (string t.second)
    (put (codes "second-prefix") (string (prefix_text t.second_prefix))
    (if s then no_members else put (codes "soft") soft no_members))))
second_by true soft t = refl
second_by false soft t = refl

pub second_added : (t : TunnelSpec) (x z : List Token)
    → z ≡ x ++ (member_tokens (codes "reqid") (wide t.reqid) ++ (member_tokens (codes "second") (string t.second) ++
    (member_tokens (codes "second-prefix") (string (prefix_text t.second_prefix))
    ++ tokens_of_members (with_lifetime (codes "soft") t.soft no_members))))
    → z ≡ x ++ tokens_of_members (with_second t no_members)
unfolding with_second
second_added t x z is = is ∙ ap (λ s. x ++ s) (second_by (has_no_limits t.soft) (object (limits_members t.soft)) t)

first_by : (h : Bool) (hard : Data) (t : TunnelSpec)
    → member_tokens (codes "first") (string t.first) ++ (member_tokens (codes "first-prefix") (string (prefix_text t.first_prefix))
    ++ (tokens_of_members (if h then no_members else put (codes "hard") hard no_members) ++ member_tokens (codes "mode")
    (word (mode_text t.now))))
    ≡ tokens_of_members (put (codes "first") (string t.first) (put (codes "first-prefix") (string (prefix_text t.first_prefix))
    (if h then put (codes "mode") (word (mode_text t.now)) no_members else put (codes "hard") hard
    (put (codes "mode") (word (mode_text t.now)) no_members))))
first_by true hard t = refl
first_by false hard t = rw (append-nil (value_tokens hard)) refl

pub first_added : (t : TunnelSpec) (x z : List Token)
    → z ≡ x ++ (member_tokens (codes "first") (string t.first) ++ (member_tokens (codes "first-prefix")
    (string (prefix_text t.first_prefix))
    ++ (tokens_of_members (with_lifetime (codes "hard") t.hard no_members) ++ member_tokens (codes "mode") (word (mode_text t.now)))))
    → z ≡ x ++ tokens_of_members (with_first t no_members)
unfolding with_first
first_added t x z is = is ∙ ap (λ s. x ++ s) (first_by (has_no_limits t.hard) (object (limits_members t.hard)) t)

tunnel_by : (h s : Bool) (hard soft : Data) (t : TunnelSpec) →
    let second = put (codes "reqid") (wide t.reqid) (put (codes "second") (string t.second)
    (put (codes "second-prefix") (string (prefix_text t.second_prefix)) (if s then no_members else put (codes "soft") soft no_members)))
    in
    let mode = put (codes "mode") (word (mode_text t.now)) no_members in
    let both = put (codes "mode") (word (mode_text t.now)) second in
    put (codes "anti-replay-window-size") (count t.window) (put (codes "first") (string t.first)
    (put (codes "first-prefix") (string (prefix_text t.first_prefix)) (if h then both else put (codes "hard") hard both)))
    ≡ joined (put (codes "anti-replay-window-size") (count t.window) no_members)
    (joined (put (codes "first") (string t.first) (put (codes "first-prefix") (string (prefix_text t.first_prefix))
    (if h then mode else put (codes "hard") hard mode))) second)
tunnel_by true true hard soft t = refl
tunnel_by true false hard soft t = refl
tunnel_by false true hard soft t = refl
tunnel_by false false hard soft t = refl

pub tunnel_added : (t : TunnelSpec) (x z : List Token)
    → z ≡ x ++ (begin_object ∷ (member_tokens (codes "anti-replay-window-size") (count t.window) ++
    (tokens_of_members (with_first t no_members) ++ (tokens_of_members (with_second t no_members) ++ end_object ∷ []))))
    → z ≡ x ++ value_tokens (tunnel_input t)
unfolding tunnel_input with_first with_second
tunnel_added t x z is =
    is ∙ ap (λ s. x ++ s) (three_parts (put (codes "anti-replay-window-size") (count t.window) no_members) (with_first t no_members)
    (with_second t no_members)
    ∙ ap (λ ms. value_tokens (object ms)) (sym (tunnel_by (has_no_limits t.hard) (has_no_limits t.soft) (object (limits_members t.hard))
    (object (limits_members t.soft)) t)))
