-- What a gateway keeps in place of its past, and what each act does to it.
use Rattle.std.specs.Prelude.{ℕ, ◌+◌, ◌&&◌, ◌||◌, max, not, Bool, true, false, List, [], ◌∷◌, ◌++◌, map, filter, fold, take, Option, Some, None, if◌then◌else◌}
use Rattle.std.specs.Str.{bytes_eq}
use Rattle.ikeless_tree.specs.declared.entry.SpdEntry.{SpdEntry}
use Rattle.ikeless_tree.specs.declared.sad.SadEntry.{SadEntry}
use Rattle.ikeless_tree.specs.declared.order.Notice.{Notice}
use Rattle.ikeless_tree.specs.declared.order.Notice.TheVariants as notices
use Rattle.replay_win.specs.Marks.{Marks, marked, no_marks}
use Rattle.ikeless_tree.specs.Half.{is_inbound}
use Rattle.life_count.specs.Lifetime.{Lifetime, cut_32, cut_64, with_told}
use Rattle.sad_store.specs.declared.half.Half.{Half}
use Rattle.sad_store.specs.Halves.{fresh, send, take_number, hushed, with_life, with_overflow, entries_of, halves_without}
use Rattle.hist_acts.specs.declared.act.Act.{Act}
use Rattle.hist_acts.specs.declared.act.Act.TheVariants as acts
use Rattle.hist_acts.specs.Past.{force, clock}
use Rattle.hist_acts.specs.Sessions as sessions
use Rattle.hist_halves.specs.Sealed.{esp_of, is_opened}
use Rattle.hist_halves.specs.Halves.{live, sent, number_for, numbers_taken}
use Rattle.hist_gateway.specs.Uses.{arrival, octets_in, installed_at, last_used, octets_used, times_used}
use Rattle.hist_gateway.specs.Stands.{has_reqid, is_soft_of, is_overflow_of, was_soft_given, was_overflow_given, with_spi, bad_spis}
use Rattle.hist_gateway.specs.Handle.{requests}

-- The list in force, the halves in the order of installation, the policies whose acquire stands, the last 64 SPIs reported, the
-- clock, the session taken with its number and the requests answered in it, and the datagram that has no answer yet.
pub record GatewayState : Type 0 where
  pub spd : List SpdEntry
  pub halves : List Half
  pub acquires : List (List ℕ)
  pub bad_spis : List ℕ
  pub clock : ℕ
  pub openings : ℕ
  pub session : ℕ
  pub requests : ℕ
  pub arrival : Option (List ℕ)

-- the policies with the one whose acquire the notice is, where it is one
abbrev pub with_acquire : Notice → List (List ℕ) → List (List ℕ)
with_acquire (notices.Acquire policy selector) names = names ++ policy ∷ []
with_acquire _ names = names

-- of these policies those whose reqid isn't this one
abbrev pub unwanted : ℕ → List SpdEntry → List (List ℕ) → List (List ℕ)
unwanted reqid list names = filter (λ p. not (has_reqid p reqid list)) names

-- the policies whose acquire stands
abbrev pub acquires : List ℕ → List Act → List (List ℕ)
acquires g [] = []
acquires g (acts.Notice f s n ∷ h) = if bytes_eq f g then with_acquire n (acquires g h) else acquires g h
acquires g (acts.Policy f list ∷ h) = if bytes_eq f g then [] else acquires g h
acquires g (acts.Put f e ∷ h) = if bytes_eq f g && not (is_inbound e.name) then unwanted e.reqid (force g h) (acquires g h)
    else acquires g h
acquires g (acts.Opened f s ∷ h) = if bytes_eq f g then [] else acquires g h
acquires g (acts.Boot f ∷ h) = if bytes_eq f g then [] else acquires g h
acquires g (_ ∷ h) = acquires g h

-- the window after these numbers, the oldest first
abbrev pub window_of : ℕ → List ℕ → Marks
window_of size numbers = fold marked (no_marks size) numbers

-- the limits and counts of a half
abbrev pub life_of : List ℕ → List Act → SadEntry → Lifetime
life_of g h e = record {
  hard = e.hard;
  soft = e.soft;
  installed = installed_at g e.name h;
  used = last_used g e.name h;
  octets = cut_64 (octets_used g e.name h);
  packets = cut_32 (times_used g e.name h);
  is_told = was_soft_given g e.name h;
}

-- a half as it is kept: its numbers, its window, its counts, and which notices of it stand
abbrev pub half_of : List ℕ → List Act → SadEntry → Half
half_of g h e = record {
  entry = e;
  sent = sent g e.name h;
  window = window_of e.window (numbers_taken g e.name h);
  life = life_of g h e;
  overflow = was_overflow_given g e.name h;
}

-- what is to be kept of a past
abbrev pub state_of : List ℕ → List Act → GatewayState
state_of g h = record {
  spd = force g h;
  halves = map (half_of g h) (live g h);
  acquires = acquires g h;
  bad_spis = take 64 (bad_spis g h);
  clock = clock h;
  openings = sessions.openings g h;
  session = sessions.session_taken g h;
  requests = requests g h;
  arrival = arrival g h;
}

-- ---- the effect of an act

-- no datagram waits for its answer
abbrev pub quiet : GatewayState → GatewayState
quiet s = record s { arrival = None }

-- another list is in force, and no acquire stands
abbrev pub with_policy : List SpdEntry → GatewayState → GatewayState
with_policy list s = record s { spd = list; acquires = []; arrival = None }

-- after an act that changes the halves alone
abbrev pub with_halves : List Half → GatewayState → GatewayState
with_halves halves s = record s { halves = halves; arrival = None }

-- after an installation: the halves, and the policies whose acquire still stands
abbrev pub with_put : List Half → List (List ℕ) → GatewayState → GatewayState
with_put halves names s = record s { halves = halves; acquires = names; arrival = None }

-- after a notice: what stands of the halves, of the policies and of SPIs
abbrev pub with_notice : List Half → List (List ℕ) → List ℕ → GatewayState → GatewayState
with_notice halves names spis s = record s { halves = halves; acquires = names; bad_spis = spis; arrival = None }

-- a session of this number is taken: no notice stands, and no request of it was answered
abbrev pub with_session : ℕ → List Half → GatewayState → GatewayState
with_session session halves s = record s {
  halves = halves;
  acquires = [];
  bad_spis = [];
  openings = s.openings + 1;
  session = session;
  requests = 0;
  arrival = None;
}

-- a gateway that restarted has nothing but the clock, and the number of sessions goes on
abbrev pub restarted : GatewayState → GatewayState
restarted s = record s {
  spd = [];
  halves = [];
  acquires = [];
  bad_spis = [];
  session = 0;
  requests = 0;
  arrival = None;
}

-- the clock is raised
abbrev pub with_clock : ℕ → GatewayState → GatewayState
with_clock now s = record s { clock = now; arrival = None }

-- one more request of the session is answered
abbrev pub with_request : GatewayState → GatewayState
with_request s = record s { requests = s.requests + 1; arrival = None }

-- this datagram waits for its answer
abbrev pub with_arrival : List ℕ → GatewayState → GatewayState
with_arrival o s = record s { arrival = Some o }

-- ---- of halves

-- a notice of this half is given
abbrev pub note : Notice → Half → Half
note n x =
    with_overflow (is_overflow_of x.entry.name n || x.overflow)
    (with_life (with_told (is_soft_of x.entry.name n || x.life.is_told) x.life) x)

-- the half, if it has this name, has sent its next number
abbrev pub sent_under : List ℕ → ℕ → ℕ → Half → Half
sent_under y now size x = if bytes_eq y x.entry.name then send now size x else x

-- the half, if it has this name, has taken this number
abbrev pub given_under : List ℕ → ℕ → ℕ → ℕ → Half → Half
given_under y now size n x = if bytes_eq y x.entry.name then take_number now size n x else x

-- the half has taken the number that it finds, where it finds one
abbrev pub take_if : ℕ → ℕ → Option ℕ → Half → Half
take_if now size None x = x
take_if now size (Some n) x = take_number now size n x

-- what was opened counts for its half, though it is dropped
abbrev pub opened_under : List SadEntry → Option (List ℕ) → ℕ → Half → Half
opened_under live None now x = x
opened_under live (Some o) now x = take_if now (octets_in (Some o)) (number_for x.entry.name x.window.top live (esp_of o)) x

-- ---- of acts

-- the act is one of this gateway, or a reading of the clock of all
abbrev pub is_at : List ℕ → Act → Bool
is_at g (acts.Now t) = true
is_at g (acts.Boot f) = bytes_eq f g
is_at g (acts.Policy f list) = bytes_eq f g
is_at g (acts.Put f e) = bytes_eq f g
is_at g (acts.Gone f x w) = bytes_eq f g
is_at g (acts.Sent f x n o) = bytes_eq f g
is_at g (acts.Drop f w) = bytes_eq f g
is_at g (acts.Arrived f o) = bytes_eq f g
is_at g (acts.Gave f x n o) = bytes_eq f g
is_at g (acts.Opened f s) = bytes_eq f g
is_at g (acts.Handled f s k a) = bytes_eq f g
is_at g (acts.Notice f s n) = bytes_eq f g
is_at g _ = false

-- the policies whose acquire stands after an installation: an outbound half lifts those with its reqid
abbrev pub wanted_after : SadEntry → GatewayState → List (List ℕ)
wanted_after e s = if not (is_inbound e.name) then unwanted e.reqid s.spd s.acquires else s.acquires

-- a dropped datagram that had opened: its half has taken its number
abbrev pub number_opened : GatewayState → GatewayState
number_opened s = with_halves (map (opened_under (entries_of s.halves) s.arrival s.clock) s.halves) s

-- what an act of this gateway makes of what was kept
abbrev pub did_at : GatewayState → Act → GatewayState
did_at s (acts.Now t) = with_clock (max t s.clock) s
did_at s (acts.Boot f) = restarted s
did_at s (acts.Policy f list) = with_policy list s
did_at s (acts.Put f e) = with_put (s.halves ++ fresh s.clock e ∷ []) (wanted_after e s) s
did_at s (acts.Gone f x w) = with_halves (halves_without x s.halves) s
did_at s (acts.Sent f x n o) = with_halves (map (sent_under x s.clock (octets_in (Some o))) s.halves) s
did_at s (acts.Drop f w) = if is_opened w then number_opened s else quiet s
did_at s (acts.Arrived f o) = with_arrival o s
did_at s (acts.Gave f x n o) = with_halves (map (given_under x s.clock (octets_in s.arrival) n) s.halves) s
did_at s (acts.Opened f n) = with_session n (map hushed s.halves) s
did_at s (acts.Handled f n k a) = with_request s
did_at s (acts.Notice f k n) = with_notice (map (note n) s.halves) (with_acquire n s.acquires) (take 64 (with_spi n s.bad_spis)) s
did_at s _ = quiet s

-- the state of gateway g after an act
abbrev pub did : List ℕ → GatewayState → Act → GatewayState
did g s a = if is_at g a then did_at s a else quiet s

-- the state of gateway g after several acts
abbrev pub did_all : List ℕ → GatewayState → List Act → GatewayState
did_all g s [] = s
did_all g s (a ∷ more) = did_all g (did g s a) more
