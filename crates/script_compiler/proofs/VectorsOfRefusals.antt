-- Test vectors of refusals, and of the result of compiling the block without statements.
use Rattle.script_compiler.proofs.Words.{[], ◌+◌, ◌∷◌, ◌≡◌, ◌≢◌, ◌≤◌, AddSub, CanCompile, Cause, Compiles}
use Rattle.script_compiler.proofs.Words.{Configuration, Context, Cost, Counters, FitsEntry, HasTable, IdUsed, IfLimitAt}
use Rattle.script_compiler.proofs.Words.{IfMismatchAt, Instr, Instructions, IsInLimits, IsItemRefused, IsLimitAt}
use Rattle.script_compiler.proofs.Words.{IsMismatch, IsOpeningRefused, IsRefused, IsRefusedAfter, IsRefusedIn, Item}
use Rattle.script_compiler.proofs.Words.{JoinIdle, Labels, LacksSpace, Limit, List, Mismatch, None, Ok, ProgramPoint}
use Rattle.script_compiler.proofs.Words.{Refused, Some, Table, Tree, Work, ap, arith, basic, beginning, block_in, false}
use Rattle.script_compiler.proofs.Words.{forever, inl, inr, length, nothing, one_sub, placed_instr, plan, point_after}
use Rattle.script_compiler.proofs.Words.{refl, stop, sub, true, ℕ}
use Rattle.mux_config.specs.declared.fault.ConfigFault.TheVariants.{Overlap}
use Rattle.mux_types.specs.declared.parts.Sub.{Sub}
use Rattle.mux_config.specs.Configuration.{nothing as no_configuration}
use Rattle.plan_verifier.specs.declared.cause.Cause.TheVariants.{Edit as OfEdit, Config as OfConfig}
use Rattle.script_front.specs.declared.tree.Act.TheVariants.{Edit as Edits, Wait as Waits, Join as Joins}
use Rattle.script_compiler.proofs.Emitted.{left_start}

-- ---- test vectors: small scripts that are refused, with the line and the cause, and wrong lines and causes

abbrev start : ProgramPoint
start = beginning no_configuration

-- `join` in line 3, where no swap is pending
a_join_is_refused : IsRefusedIn plan (basic 3 Joins nothing) start 3 JoinIdle
a_join_is_refused = inl (refl, ((λ h. h), refl))

not_in_line_four : IsRefusedIn plan (basic 3 Joins nothing) start 4 JoinIdle → ⊥
not_in_line_four (inl h) = let e : 4 ≡ 3 = h.0 in absurd (omega (arith, e))
not_in_line_four (inr h) = h.0

-- `wait 1` after an `end`
after_an_end : IsRefusedIn plan (stop 3 (basic 4 (Waits 1) nothing)) start 4 Table
after_an_end = (refl, refl)

what_is_reached : IsRefusedAfter (Some start) nothing (λ u. ⊥) 3 Table → ⊥
what_is_reached h = h

-- a loop that adds a sub-channel in each iteration does not fit its entry
one_more_each_time : IsRefusedIn plan (forever 2 (basic 3 (Edits (AddSub sub)) nothing) nothing) start 2 Mismatch
one_more_each_time = inr (((refl, refl), tt), inl ((λ round. not_the_empty round.1), refl, refl))
  where
    not_the_empty : one_sub ≢ no_configuration
    not_the_empty e = let subs : sub ∷ [] ≡ [] = ap (λ (c : Configuration). c.subs) e in absurd cc

-- a loop that only waits fits it
no_mismatch : IsMismatch 2 (FitsEntry (point_after plan (basic 3 (Waits 1) nothing) start) start) 2 Mismatch → ⊥
no_mismatch h = h.0 (refl, refl)

-- ---- items and the opening

abbrev item : ℕ → Item
item line = record { line = line; edit = AddSub sub }

the_second_item : IsItemRefused (item 2 ∷ item 3 ∷ []) no_configuration 3 (OfEdit IdUsed)
the_second_item = inr (refl, inl (refl, refl))

no_item : (line : ℕ) (cause : Cause) → IsItemRefused (item 2 ∷ []) no_configuration line cause → ⊥
no_item line cause (inl h) = h.1
no_item line cause (inr h) = h.1

abbrev other : Sub
other = record sub { id = 2 }

they_overlap : IsOpeningRefused plan (record { subs = sub ∷ other ∷ []; services = []; packets = [] })
    (OfConfig (Overlap 1 2))
they_overlap = inl refl

an_opening_of_nothing : (cause : Cause) → IsOpeningRefused plan no_configuration cause → ⊥
an_opening_of_nothing cause (inl h) = h
an_opening_of_nothing cause (inr h) = absurd (omega (arith, h.1.0))

-- ---- a script as a whole

abbrev ends : List Item → Tree
ends items = record {
  header = plan;
  items = items;
  names = [];
  blocks = [];
  begin_line = 4;
  statements = [];
  last_line = 4;
}

an_item_refuses_it : IsRefused (ends (item 2 ∷ item 3 ∷ [])) 3 (OfEdit IdUsed)
an_item_refuses_it = inl the_second_item

not_the_opening : IsRefused (ends (item 2 ∷ item 3 ∷ [])) 4 JoinIdle → ⊥
not_the_opening (inl (inl h)) = let e : 4 ≡ 2 = h.0 in absurd (omega (arith, e))
not_the_opening (inl (inr h)) = by h.1
  where
    by : IsItemRefused (item 3 ∷ []) one_sub 4 JoinIdle → ⊥
    by (inl h) = let e : 4 ≡ 3 = h.0 in absurd (omega (arith, e))
    by (inr h) = h.1
not_the_opening (inr h) = let e : Some IdUsed ≡ None = h.0.1.0 in absurd cc

-- ---- the result of compiling the block without statements, and faults and limits

module _ (c : Context) (w : Work) where
  no_statements : block_in c [] ≡ nothing
  no_statements = refl

  -- there is no counter for a ninth repeat
  nine_repeats : c.counters ≡ 9 → CanCompile c w → ⊥
  nine_repeats nine can = let few = can.counters in omega (arith, nine, few)

  -- nothing is emitted, and control reaches the end
  compiled : CanCompile c w → Compiles c nothing nothing w w (Ok true)
  compiled can = record { left = left_start c.plan.now c.counters nothing w; limits = can.limits }

  goes_on : Compiles c nothing nothing w w (Ok false) → ⊥
  goes_on h = let leads : Some w.now ≡ None = h.left.leads in cc

  -- ---- limits

  no_code : w.lines.items ≡ [] → HasTable w → IsInLimits w
  no_code none table = record { room = let n = ap length none in omega (arith, n); table = table }

  one_too_many : length w.lines.items ≡ 4097 → IsInLimits w → ⊥
  one_too_many many h = let room = h.room in omega (arith, many, room)

  no_space : length w.lines.items ≡ 4096 → LacksSpace Instructions w
  no_space full p ps at space = let more : length w.lines.items + length (p ∷ ps) ≤ 4096 = space in
      omega (arith, full, more)

  -- repeats need no space
  space_for_counters : (i : Instr) → LacksSpace Counters w → ⊥
  space_for_counters i none = none (placed_instr 0 i 0 w.now) [] refl tt

limit_at_5 : IsLimitAt 5 (λ k. k ≡ Labels) (Limit 5 Labels)
limit_at_5 = (refl, refl)

limit_at_6 : IsLimitAt 5 (λ k. k ≡ Labels) (Limit 6 Labels) → ⊥
limit_at_6 h = let same : 6 ≡ 5 = h.0 in omega (arith, same)

mismatch_at_5 : IfMismatchAt 5 (Labels ≡ Labels) (Refused 5 Mismatch)
mismatch_at_5 = (refl, (refl, refl))

cost_at_5 : IfMismatchAt 5 (Labels ≡ Labels) (Refused 5 Cost) → ⊥
cost_at_5 h = let same : Cost ≡ Mismatch = h.1.0 in cc

exceeded_at_5 : IfLimitAt 5 (λ k. k ≡ Labels) (Limit 5 Labels)
exceeded_at_5 = (refl, refl)

exceeded_at_6 : IfLimitAt 5 (λ k. k ≡ Labels) (Limit 6 Labels) → ⊥
exceeded_at_6 h = let same : 6 ≡ 5 = h.0 in omega (arith, same)
