-- What is left of files and of standard input, where their bytes are known.
use Rattle.std.specs.Prelude.{ℕ, List, Option}
use Rattle.console.specs.declared.files.Source.{Source}
use Rattle.console.specs.declared.files.Source.TheVariants.{File, Input}

-- what is left of the file or of standard input
abbrev pub left_of_source : {F I : Type 0} → (F → Option (List ℕ)) → (I → Option (List ℕ)) → Source F I
    → Option (List ℕ)
left_of_source file input (File f) = file f
left_of_source file input (Input i) = input i

-- bytes read in pieces: what is left of them, and the last piece
pub record Reading : Type 0 where
  pub left : Option (List ℕ)
  pub piece : List ℕ
