-- What `compile --from` leaves, from what its steps leave.
use Rattle.cli_scripts.proofs.Words.{Compiled, Configuration, Done, Err, HasScriptOpening, IfOk, IfSome, IsReadOf}
use Rattle.cli_scripts.proofs.Words.{IsUtf8, Keeps, List, None, Ok, Opening, Option, Result, Some, Tree, inl, inr}
use Rattle.cli_scripts.proofs.Words.{length, refl, subst, take, ℕ, ◌∙◌, ◌≡◌, ◌≢◌, ◌≤◌, ◌⊎◌}
use Rattle.cli_scripts.proofs.ReadTexts.{whole_of}
use Rattle.cli_scripts.specs.Begun.{Begins, FindsBegun, FindsFrom, IsBegun, IsBegunFrom, IsScheduleBegun, IsStepsBegun}
use Rattle.cli_scripts.specs.Compiled.{IsFileOf, IsMadeOf}
use Rattle.mux_types.specs.Configuration.{nothing}
use Rattle.plan_code.specs.Program.{Program}
use Rattle.plan_takeover.specs.Takeover.{IsTakeover}
use Rattle.plan_verifier.specs.Typing.{IsTyped}
use Rattle.schedule_front.specs.Denoting.{IsScheduleOf}
use Rattle.schedule_front.specs.Tree.{IsSchedule}
use Rattle.schedule_front.specs.Tree.{Tree as Schedule}
use Rattle.schedule_verifier.specs.Playing.{PlaysAsScheduled}
use Rattle.script_config.specs.Items.{made_by}
use Rattle.script_tokens.specs.Texts.{MOST_BYTES}

-- ---- the code

pub kept : (text : List ℕ) (tree : Tree) (own : Program) (on_air items : Configuration) (c : Compiled)
    → IsMadeOf text tree own → made_by tree.items nothing ≡ Ok items → items ≡ on_air → IsFileOf own c
    → IsBegun text on_air c
kept text tree own on_air items c made opens same file =
    record {
      code = own;
      begun = inl (record {
        tree = tree;
        own = own;
        made = made;
        items = items;
        opens = opens;
        leads = inl (same, refl);
        typed = made.typed;
      });
      file = file;
    }

pub led : (text : List ℕ) (tree : Tree) (own : Program) (on_air items : Configuration) (code : Program) (c : Compiled)
    → IsMadeOf text tree own → made_by tree.items nothing ≡ Ok items → items ≢ on_air
    → IsTakeover tree.begin_line own on_air items code → IsTyped code → IsFileOf code c → IsBegun text on_air c
led text tree own on_air items code c made opens other takes typed file =
    record {
      code = code;
      begun = inl (record {
        tree = tree;
        own = own;
        made = made;
        items = items;
        opens = opens;
        leads = inr (other, takes);
        typed = typed;
      });
      file = file;
    }

pub scheduled : (text : List ℕ) (tree : Schedule) (on_air : Configuration) (code : Program) (c : Compiled)
    → IsSchedule tree → IsScheduleOf text tree → PlaysAsScheduled tree on_air code → IsTyped code → IsFileOf code c
    → IsBegun text on_air c
scheduled text tree on_air code c schedule denotes plays typed file =
    record {
      code = code;
      begun = inr (record { tree = tree; schedule = schedule; denotes = denotes; plays = plays; typed = typed });
      file = file;
    }

-- ---- the files

short_of : {text : List ℕ} {on_air : Configuration} {code : Program}
    → IsStepsBegun text on_air code ⊎ IsScheduleBegun text on_air code → length text ≤ MOST_BYTES
short_of (inl steps) = steps.made.denotes.short
short_of (inr schedule) = schedule.denotes.short

pub begun_whole : (bytes text : List ℕ) (on_air : Configuration) (c : Compiled) → IsReadOf bytes text
    → IsBegun text on_air c → IsBegunFrom bytes on_air c
begun_whole bytes text on_air c r h =
    let e : text ≡ bytes = whole_of bytes text r (short_of h.begun) in
    record { utf8 = subst IsUtf8 e r.utf8; begun = subst (λ (t : List ℕ). IsBegun t on_air c) e h }

found_from : (script now : List ℕ) (o : Opening) (found : Option Compiled) → HasScriptOpening now o
    → FindsBegun script o.config found → FindsFrom script now found
found_from script now o None opens h = tt
found_from script now o (Some c) opens h = record { on_air = o; opens = opens; begun = h }

finds : (script now after : Option (List ℕ)) (read : List ℕ) (o : Opening) (found : Option Compiled)
    → IfSome script (λ b. read ≡ take 1048581 b) → Keeps now after → IfSome after (λ b. HasScriptOpening b o)
    → ((file : List ℕ) → read ≡ take 1048581 file → FindsBegun file o.config found)
    → IfSome script (λ s. IfSome now (λ n. FindsFrom s n found))
finds None now after read o found is stays opens begun = tt
finds (Some s) None after read o found is stays opens begun = tt
finds (Some s) (Some n) None read o found is stays opens begun = absurd stays
finds (Some s) (Some n) (Some a) read o found is stays opens begun =
    found_from s n o found (subst (λ (b : List ℕ). HasScriptOpening b o) stays opens) (begun s is)

pub finds_ok : {E : Type 0} (script now after : Option (List ℕ)) (read slice : List ℕ) (o : Opening)
    (result : Result (Option Compiled) E) → slice ≡ read → IfSome script (λ b. read ≡ take 1048581 b)
    → Keeps now after → IfSome after (λ b. HasScriptOpening b o)
    → IfOk result (λ found. (file : List ℕ) → slice ≡ take 1048581 file → FindsBegun file o.config found)
    → IfOk result (λ found. IfSome script (λ s. IfSome now (λ n. FindsFrom s n found)))
finds_ok script now after read slice o (Ok found) same is stays opens begun =
    finds script now after read o found is stays opens (λ file at. begun file (same ∙ at))
finds_ok script now after read slice o (Err e) same is stays opens begun = tt

-- ---- the verdict

pub begins : (script now : Option (List ℕ)) (found : Option Compiled) (c : Compiled) (Holds : List ℕ → Type 0)
    → found ≡ Some c → IfSome script (λ s. IfSome now (λ n. FindsFrom s n found)) → Holds c.file.items
    → IfSome script (λ s. IfSome now (λ n. Begins s n Holds Done))
begins None now found c Holds is h held = tt
begins (Some s) None found c Holds is h held = tt
begins (Some s) (Some n) found c Holds is h held = (c, subst (λ (x : Option Compiled). FindsFrom s n x) is h, held)
