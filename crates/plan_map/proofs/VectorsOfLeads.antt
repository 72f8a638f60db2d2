-- What leads to an instruction where paths meet.
use Rattle.plan_map.proofs.Words.{[], ◌∷◌, ◌≡◌, Jump, None, One, Some, Test, Wait, Waited, Ways, after, false, lead_of}
use Rattle.plan_map.proofs.Words.{refl, true, ways_from}
use Rattle.plan_map.specs.declared.lead.Lead.TheVariants.{Contact, Begin}

-- behind `if contact 3 { wait 5 } else { .. }`: a test at pc 0, the first wait at 1 and its jump at 2, to pc 4
abbrev at_end : Ways → Ways
at_end before =
    ways_from 4 before (
    record { instr = Test 3 3; ways = One Begin }
    ∷ record { instr = Wait 5; ways = One (Contact 3 true) }
    ∷ record { instr = Jump 4; ways = One (Waited 5) }
    ∷ record { instr = Wait 5; ways = One (Contact 3 false) }
    ∷ [])

the_same_wait : lead_of (at_end (One (Waited 5))) ≡ Some (Waited 5)
the_same_wait = refl

another_wait : lead_of (at_end (One (Waited 6))) ≡ None
another_wait = refl

-- the branch behind `else` has the contact open
of_else : lead_of (ways_from 3 (after (Jump 4) (One (Waited 5))) (record { instr = Test 3 3; ways = One Begin } ∷ []))
    ≡ Some (Contact 3 false)
of_else = refl
