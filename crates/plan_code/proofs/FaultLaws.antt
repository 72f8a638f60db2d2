-- Bytes have at most one fault, and have one exactly where they are not a code file; none is out of memory.
use Rattle.plan_code.proofs.Words.{[], ◌∙◌, ◌∷◌, ◌≡◌, AreBytes, BytesLackNoMemory, CodeFault, Err, HasCodeFault}
use Rattle.plan_code.proofs.Words.{HasFaultWithoutCode, HasOneFault, IsNoFile, List, Ok, Program, Result, ap, arith}
use Rattle.plan_code.proofs.Words.{code_of, length, refl, subst, ℕ}
use Rattle.plan_code.proofs.FileLaws.{code_front, code_again}
use Rattle.plan_code.proofs.PlacedFiles.{EndsWithin, within_code, none_read}

pub lacks_no_memory : BytesLackNoMemory
lacks_no_memory [] e = let truncated = none_read in absurd (cc)
lacks_no_memory (b ∷ rest) e =
    subst (λ (r : Result Program CodeFault). EndsWithin (length (b ∷ rest)) r) e (within_code (b ∷ rest) (omega arith))

pub one_fault : HasOneFault
one_fault bytes f g first second =
    cc

-- reading gives a code or a fault
fault_or_code : (bytes : List ℕ) (r : Result Program CodeFault) → code_of bytes ≡ r → AreBytes bytes → IsNoFile bytes
    → (f : CodeFault) × HasCodeFault bytes f
fault_or_code bytes (Ok p) e fits none = let read = code_front bytes p fits e in
    absurd (none p read.formed read.spelled)
fault_or_code bytes (Err f) e fits none = (f, e)

pub fault_without_code : HasFaultWithoutCode
fault_without_code bytes fits = (
  λ found p formed spelled.
      let read : code_of bytes ≡ Ok p = ap code_of spelled ∙ code_again p formed in
      absurd cc,
  λ none. fault_or_code bytes (code_of bytes) refl fits none,
)
