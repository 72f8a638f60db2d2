-- The files of a world, and what calls leave of them.
use Rattle.std.specs.Prelude.{◌≡◌, ◌≢◌, ℕ, List, [], Option, Some, None}

pub record World : Type 0 where
  -- the bytes of the file of each path; `None` if there is no file
  pub files : List ℕ → Option (List ℕ)

-- a path has a file
abbrev pub Exists : Option (List ℕ) → Type 0
Exists None = ⊥
Exists (Some bytes) = Unit {0}

-- a known world stays known, and the old and the new one are related; nothing is claimed of an unknown one
abbrev pub Becomes : (World → World → Type 0) → Option World → Option World → Type 0
Becomes Related None new = Unit {0}
Becomes Related (Some old) None = ⊥
Becomes Related (Some old) (Some new) = Related old new

-- every file is as it was
abbrev pub IsSame : World → World → Type 0
IsSame old new = (path : List ℕ) → new.files path ≡ old.files path

-- every file but that of this path is as it was
abbrev pub IsSameBut : List ℕ → World → World → Type 0
IsSameBut path old new = (other : List ℕ) → other ≢ path → new.files other ≡ old.files other

-- the file of this path has these bytes, and every other one is as it was
pub record HasWritten (path bytes : List ℕ) (old new : World) : Type 0 where
  pub written : new.files path ≡ Some bytes
  pub others : IsSameBut path old new

-- what a path has after its file is created unless there is one
abbrev pub touched : Option (List ℕ) → Option (List ℕ)
touched None = Some []
touched (Some bytes) = Some bytes

-- the file of this path exists; it has the bytes that it had, or is empty if it is new
pub record HasTouched (path : List ℕ) (old new : World) : Type 0 where
  pub exists : new.files path ≡ touched (old.files path)
  pub others : IsSameBut path old new

abbrev pub Stays : Option World → Option World → Type 0
Stays old new = Becomes IsSame old new
