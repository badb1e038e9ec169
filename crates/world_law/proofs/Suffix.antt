-- What holds of a past holds of its older acts.
use Rattle.std.proofs.Common.{◌≡◌, List, [], ◌∷◌, ◌++◌, length, refl, ◌∙◌}
use Rattle.ikeless_tree.specs.declared.command.Peer.{Peer}
use Rattle.ikeless_tree.specs.declared.ends.GoneWhy.TheVariants as gone
use Rattle.hist_acts.specs.declared.act.Act.{Act}
use Rattle.hist_acts.specs.declared.act.Act.TheVariants as acts
use Rattle.hist_controller.specs.Acts.{ControllerAct, Opened, Cut, Answered, Heard, Ordered, Accepted, Refused}
use Rattle.hist_controller.specs.Clauses.{IsControllerPast}
use Rattle.hist_controller.specs.Halves.{PlainAnswers}
use Rattle.hist_controller.specs.Table.{AllFit}
use Rattle.hist_controller.specs.Told.{order_told, past_told, peer_name}
use Rattle.hist_safety.specs.Law.{IsLawful}
use Rattle.hist_world.specs.Parts.{controllers_part}
use Rattle.hist_world.specs.Stands.{Meet}
use Rattle.hist_wire.specs.Wire.{before_change}
use Rattle.world_law.proofs.Typed.{AreSpelled, spelled-tail}

-- ---- the controller's own past

-- the controller's acts, of which the newest one that is told is gone
record Older (ps : List Peer) (k : List Act) : Type 0 where
  acts : List ControllerAct
  told : k ≡ past_told ps acts
  past : IsControllerPast (length ps) acts
  fit : AllFit (length ps) acts
  plain : PlainAnswers acts

rest-is : (a b : Act) (k m : List Act) → a ∷ k ≡ b ∷ m → k ≡ m
rest-is a b k m e = cc

none-left : (a : Act) (k : List Act) → a ∷ k ≡ [] → ⊥
none-left a k e = cc

older-part : (ps : List Peer) (a : Act) (k : List Act) (c : List ControllerAct) → a ∷ k ≡ past_told ps c → IsControllerPast (length ps) c
    → AllFit (length ps) c → PlainAnswers c → Older ps k
older-part ps a k [] e p f y = absurd (none-left a k e)
older-part ps a k (Opened g s ∷ c) e p f y = record {
  acts = c;
  told = rest-is a (acts.Opened (peer_name ps g) s) k (past_told ps c) e;
  past = p.1;
  fit = f.1;
  plain = y;
}
older-part ps a k (Cut g s ∷ c) e p f y = record {
  acts = c;
  told = rest-is a (acts.Cut (peer_name ps g) s) k (past_told ps c) e;
  past = p.1;
  fit = f.1;
  plain = y;
}
older-part ps a k (Answered g s n b ∷ c) e p f y =
    record { acts = c; told = rest-is a (acts.Answered (peer_name ps g) s n b) k (past_told ps c) e; past = p.1; fit = f.1; plain = y.1 }
older-part ps a k (Heard g s t ∷ c) e p f y = record {
  acts = c;
  told = rest-is a (acts.Heard (peer_name ps g) s t) k (past_told ps c) e;
  past = p.1;
  fit = f.1;
  plain = y;
}
older-part ps a k (Ordered g s n o ∷ c) e p f y =
    record {
      acts = c;
      told = rest-is a (acts.Order (peer_name ps g) s n (order_told ps o)) k (past_told ps c) e;
      past = p.1;
      fit = f.1;
      plain = y;
    }
older-part ps a k (Accepted x ∷ c) e p f y = older-part ps a k c e p.1 f.1 y
older-part ps a k (Refused w ∷ c) e p f y = record {
  acts = c;
  told = rest-is a (acts.Refused w) k (past_told ps c) e;
  past = p.1;
  fit = f.1;
  plain = y;
}

-- ---- all of it

-- what is known of a past and of its older acts
pub record Known (ps : List Peer) (h : List Act) : Type 0 where
  pub lawful : IsLawful ps h
  pub acts : List ControllerAct
  pub meet : Meet ps h acts
  pub plain : PlainAnswers acts
  pub spelled : AreSpelled ps h

known-by : (ps : List Peer) (h : List Act) → IsLawful ps h → AreSpelled ps h → Older ps (controllers_part h) → Known ps h
known-by ps h l s o = record {
  lawful = l;
  acts = o.acts;
  meet = record { part = o.told; past = o.past; fit = o.fit };
  plain = o.plain;
  spelled = s;
}

older-of : (ps : List Peer) (a : Act) (h : List Act) → Known ps (a ∷ h) → a ∷ controllers_part h ≡ controllers_part (a ∷ h)
    → Older ps (controllers_part h)
older-of ps a h k e = older-part ps a (controllers_part h) k.acts (e ∙ k.meet.part) k.meet.past k.meet.fit k.plain

same-of : (ps : List Peer) (a : Act) (h : List Act) → Known ps (a ∷ h) → controllers_part h ≡ controllers_part (a ∷ h)
    → Older ps (controllers_part h)
same-of ps a h k e = record { acts = k.acts; told = e ∙ k.meet.part; past = k.meet.past; fit = k.meet.fit; plain = k.plain }

older-act : (ps : List Peer) (a : Act) (h : List Act) → Known ps (a ∷ h) → Older ps (controllers_part h)
older-act ps (acts.Opened f s) h k = older-of ps (acts.Opened f s) h k refl
older-act ps (acts.Cut f s) h k = older-of ps (acts.Cut f s) h k refl
older-act ps (acts.Order f s n o) h k = older-of ps (acts.Order f s n o) h k refl
older-act ps (acts.Answered f s n b) h k = older-of ps (acts.Answered f s n b) h k refl
older-act ps (acts.Heard f s t) h k = older-of ps (acts.Heard f s t) h k refl
older-act ps (acts.Refused w) h k = older-of ps (acts.Refused w) h k refl
older-act ps a h k = same-of ps a h k refl

pub known-tail : (ps : List Peer) (a : Act) (h : List Act) → Known ps (a ∷ h) → Known ps h
known-tail ps a h k = known-by ps h k.lawful.1 (spelled-tail ps a h k.spelled) (older-act ps a h k)

pub known-older : (ps : List Peer) (newer older : List Act) → Known ps (newer ++ older) → Known ps older
known-older ps [] older k = k
known-older ps (a ∷ newer) older k = known-older ps newer older (known-tail ps a (newer ++ older) k)

-- before the change of a reply
pub known-before : (ps : List Peer) (h : List Act) → Known ps h → Known ps (before_change h)
known-before ps [] k = k
known-before ps (acts.Policy f list ∷ h) k = known-tail ps (acts.Policy f list) h k
known-before ps (acts.Put f e ∷ h) k = known-tail ps (acts.Put f e) h k
known-before ps (acts.Gone f x gone.Removed ∷ h) k = known-tail ps (acts.Gone f x gone.Removed) h k
known-before ps (acts.Gone f x gone.Hard ∷ h) k = k
known-before ps (a ∷ h) k = k
