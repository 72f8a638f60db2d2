-- Merging the streams of two files whose bytes are known.
use Rattle.cli_streams.proofs.Words.{[], ◌∙◌, ◌≡◌, ◌≢◌, Bool, Consumes, Err, Keeps, Keeps-trans, List, MergeFault}
use Rattle.cli_streams.proofs.Words.{MergeSummary, Merges, MergesFiles, None, Ok, Option, ReadsFrame, Result, Some}
use Rattle.cli_streams.proofs.Words.{Status, codes, cond, false, known_at, refl, subst, sym, true, ℕ}
use Rattle.std.specs.Bool.{Decides}
use Rattle.std.specs.Str.{bytes_eq}
use Rattle.std.proofs.lemmas.Slice.Eq.{bytes_eq-Decides}

pub keeps_consumes : (a b c : Option (List ℕ)) (bs : List ℕ) → Keeps a b → Consumes b c bs → Consumes a c bs
keeps_consumes None b c bs k h = tt
keeps_consumes (Some x) None c bs k h = absurd k
keeps_consumes (Some x) (Some y) None bs k h = absurd h
keeps_consumes (Some x) (Some y) (Some z) bs k h = sym k ∙ h

pub kept_reads : (before then left : Option (List ℕ)) (frame : List ℕ) (result : Result Bool MergeFault)
    → Keeps before then → ReadsFrame then left frame result → ReadsFrame before left frame result
kept_reads before then left frame (Ok true) kept read = keeps_consumes before then left frame kept read
kept_reads before then left frame (Ok false) kept read = (keeps_consumes before then left [] kept read.0, read.1)
kept_reads before then left frame (Err fault) kept (part, consumed) =
    (part, keeps_consumes before then left part kept consumed)

-- what holds of the bytes that are read holds of those of the files
of_files : {size : ℕ} {plan other known_plan known_other old new : Option (List ℕ)} {status : Status}
    {summary : MergeSummary}
    → Keeps known_plan plan → Keeps known_other other → Merges size plan other old new status summary
    → Merges size known_plan known_other old new status summary
of_files {size} {plan} {other} {known_plan} {known_other} keeps_plan keeps_other m = record {
  frames = m.frames;
  taken = m.taken;
  plan_left = m.plan_left;
  other_left = m.other_left;
  is_open = m.is_open;
  whole = m.whole;
  bytes = keeps_consumes known_plan plan m.plan_left _ keeps_plan m.bytes;
  end = m.end;
  takes = record {
    cut = m.takes.cut;
    whole = m.takes.whole;
    bytes = keeps_consumes known_other other m.other_left _ keeps_other m.takes.bytes;
    ends = m.takes.ends;
  };
  counts = m.counts;
  written = m.written;
}

-- and so of those of a size that is the same
pub merges_files : (later_other : Option (List ℕ)) {size read_size : ℕ}
    {plan other known_plan known_other old new : Option (List ℕ)} {status : Status} {summary : MergeSummary}
    → read_size ≡ size → Keeps known_plan plan → Keeps known_other later_other → Keeps later_other other
    → Merges read_size plan other old new status summary
    → MergesFiles size known_plan known_other old new status
merges_files later_other {size} {read_size} {plan} {other} {known_plan} {known_other} {old} {new} {status} {summary}
    same keeps_plan keeps_other keeps m = (
      summary,
      subst (λ n. Merges n known_plan known_other old new status summary) same
          (of_files keeps_plan (Keeps-trans known_other later_other other keeps_other keeps) m),
    )

-- ---- paths

chosen : (b : Bool) (known input : Option (List ℕ)) (P : Type 0) (Q : Option (List ℕ) → Type 0) → Decides b P
    → (P → Q input) → ((P → ⊥) → Q known) → Q (cond b input known)
chosen true known input P Q d in_input in_file = in_input (d.0 refl)
chosen false known input P Q d in_input in_file = in_file (λ p. absurd (true_false (d.1 p)))
  where
    true_false : false ≡ true → ⊥
    true_false e = absurd (cc)

-- of the bytes at a path
pub at_path : (known : List ℕ → Option (List ℕ)) (input : Option (List ℕ)) (path : List ℕ)
    (Q : Option (List ℕ) → Type 0) → (path ≡ codes "-" → Q input) → (path ≢ codes "-" → Q (known path))
    → Q (known_at known input path)
at_path known input path Q in_input in_file =
    chosen (bytes_eq path (codes "-")) (known path) input (path ≡ codes "-") Q (bytes_eq-Decides path (codes "-"))
    in_input in_file

-- the bytes of the source that is opened for a path
pub opened_at : (known : List ℕ → Option (List ℕ)) (input source : Option (List ℕ)) (path : List ℕ)
    → (path ≡ codes "-" → Keeps input source) → (path ≢ codes "-" → Keeps (known path) source)
    → Keeps (known_at known input path) source
opened_at known input source path in_input in_file = at_path known input path (λ x. Keeps x source) in_input in_file

kept : (b : Bool) (known later input input_later : Option (List ℕ)) (P : Type 0) → Decides b P → Keeps known later
    → (P → Keeps input input_later) → Keeps (cond b input known) (cond b input_later later)
kept true known later input input_later P d of_file of_input = of_input (d.0 refl)
kept false known later input input_later P d of_file of_input = of_file
