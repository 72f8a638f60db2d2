-- A cut with one part more or less at its end.
use Rattle.stream_check.proofs.Words.{[], ◌++◌, ◌+◌, ◌∙◌, ◌∷◌, ◌≡◌, AllByRecursion, HasAll, IsCutInto, IsPart}
use Rattle.stream_check.proofs.Words.{List, ap, append-nil, append_assoc, arith, flat_map, flat_map-append, length}
use Rattle.stream_check.proofs.Words.{length-append, refl, suc, sym, ℕ}
use Rattle.stream_check.proofs.Rows.{heard_left, heard_right}

-- the last part of a cut
pub record Last (wanted : List ℕ) (n : ℕ) (frames : List (List ℕ)) : Type 0 where
  pub front : List (List ℕ)
  pub part : List (List ℕ)
  pub is : frames ≡ front ++ part
  pub cut : IsCutInto wanted n front
  pub whole : IsPart wanted part

record LastOf (wanted : List ℕ) (n : ℕ) (row : List (List ℕ)) : Type 0 where
  parts : List (List (List ℕ))
  part : List (List ℕ)
  count : length parts ≡ n
  is : row ≡ flat_map (λ p. p) parts ++ part
  each : AllByRecursion (IsPart wanted) parts
  whole : IsPart wanted part

last_of : (wanted : List ℕ) (p : List (List ℕ)) (ps : List (List (List ℕ))) → AllByRecursion (IsPart wanted) (p ∷ ps)
    → LastOf wanted (length ps) (flat_map (λ q. q) (p ∷ ps))
last_of wanted p [] each = record { parts = []; part = p; count = refl; is = append-nil p; each = tt; whole = each.0 }
last_of wanted p (q ∷ qs) each =
    let rest = last_of wanted q qs each.1 in
    record {
      parts = p ∷ rest.parts;
      part = rest.part;
      count = ap suc rest.count;
      is = rw (rest.is) (sym (append_assoc p (flat_map (λ q. q) rest.parts) rest.part));
      each = (each.0, rest.each);
      whole = rest.whole;
    }

last_by : (wanted : List ℕ) (n : ℕ) (frames : List (List ℕ)) (parts : List (List (List ℕ)))
    → length parts ≡ suc n → flat_map (λ q. q) parts ≡ frames → AllByRecursion (IsPart wanted) parts
    → Last wanted n frames
last_by wanted n frames [] count whole each = absurd (omega arith)
last_by wanted n frames (p ∷ ps) count whole each =
    let last = last_of wanted p ps each in
    record {
      front = flat_map (λ q. q) last.parts;
      part = last.part;
      is = sym whole ∙ last.is;
      cut = record { parts = last.parts; count = (last.count ∙ omega (arith, count)); whole = refl; each = last.each };
      whole = last.whole;
    }

pub last : (wanted : List ℕ) (n : ℕ) (frames : List (List ℕ)) → IsCutInto wanted (suc n) frames → Last wanted n frames
last wanted n frames c = last_by wanted n frames c.parts c.count c.whole c.each

-- one more part
each_more : (wanted : List ℕ) (parts : List (List (List ℕ))) (part : List (List ℕ))
    → AllByRecursion (IsPart wanted) parts → IsPart wanted part → AllByRecursion (IsPart wanted) (parts ++ part ∷ [])
each_more wanted [] part each whole = (whole, tt)
each_more wanted (p ∷ ps) part each whole = (each.0, each_more wanted ps part each.1 whole)

pub more : (wanted : List ℕ) (n : ℕ) (front part : List (List ℕ)) → IsCutInto wanted n front → IsPart wanted part
    → IsCutInto wanted (n + 1) (front ++ part)
more wanted n front part c whole = record {
  parts = c.parts ++ part ∷ [];
  count = rw (← c.count) (length-append c.parts (part ∷ []));
  whole = flat_map-append (λ p. p) c.parts (part ∷ []) ∙ ap (λ row. row ++ (part ++ [])) c.whole
      ∙ ap (λ row. front ++ row) (append-nil part);
  each = each_more wanted c.parts part c.each whole;
}

-- no part
pub none : (wanted : List ℕ) → IsCutInto wanted 0 []
none wanted = record { parts = []; count = refl; whole = refl; each = tt }

-- with more frames
pub has_left : (wanted : List ℕ) (xs ys : List (List ℕ)) → HasAll wanted xs → HasAll wanted (xs ++ ys)
has_left wanted xs ys h x want = heard_left xs ys x (h x want)

pub has_right : (wanted : List ℕ) (xs ys : List (List ℕ)) → HasAll wanted ys → HasAll wanted (xs ++ ys)
has_right wanted xs ys h x want = heard_right xs ys x (h x want)
