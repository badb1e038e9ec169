-- What a direction waits for where it idles.
use Rattle.std.specs.Prelude.{◌≡◌, ℕ, true, false, not, ◌&&◌, Bool, List, [], ◌⊎◌}
use Rattle.hist_controller.specs.Acts.{Way, Association, ControllerAct}
use Rattle.hist_controller.specs.Past.{is_open, is_first_answered, spare, RemovingOut, is_out_ordered, has_answer, is_busy}

-- no session of the gateway is open, or its first reading is not answered
abbrev pub WaitsForGateway : ℕ → List ControllerAct → Type 0
WaitsForGateway g h = (is_open g h ≡ false) ⊎ (is_first_answered g h ≡ false)

-- a put or a removal of its own waits for its answer, or one of its two gateways for a session or a reading
abbrev pub WaitsForGateways : List ControllerAct → Way → Type 0
WaitsForGateways h d = (is_busy d h ≡ true) ⊎ (WaitsForGateway d.sender h ⊎ WaitsForGateway d.receiver h)

-- the outbound half was ordered put, and no removal of it is answered
abbrev pub has_outbound_half : List ControllerAct → Association → Bool
has_outbound_half h x = is_out_ordered x.serial h && not (has_answer RemovingOut x.serial h)

-- so does an ended association, for the gateway at which a half is removed next
abbrev pub WaitsForRemoval : List ControllerAct → Way → Association → Type 0
WaitsForRemoval h d x =
    (is_busy d h ≡ true)
    ⊎ (((has_outbound_half h x ≡ true) × WaitsForGateway d.sender h) ⊎ ((has_outbound_half h x ≡ false) × WaitsForGateway d.receiver h))

-- so does a direction that is owed an association, or for a key
abbrev pub WaitsForKey : List ControllerAct → Way → Type 0
WaitsForKey h d = WaitsForGateways h d ⊎ (spare h ≡ [])
