-- The ensemble that a stream names, piece by piece.
use Rattle.cli_scripts.proofs.Words.{[], ◌%◌, ◌++◌, ◌∷◌, ◌≡◌, Bool, Heard, HearsNamed, HearsTheStream, List, NamesAfter}
use Rattle.cli_scripts.proofs.Words.{None, Option, ended, ended_named, false, fibs_of_stream, fibs_on, inl, inr, length}
use Rattle.cli_scripts.proofs.Words.{named_by_figs, subst, sym, true, unheard, ℕ}

names_on : (xs ys : List (List ℕ)) (before now after : Option ℕ) → NamesAfter xs before now → NamesAfter ys now after
    → NamesAfter (xs ++ ys) before after
names_on [] ys before now after h more = subst (λ (o : Option ℕ). NamesAfter ys o after) h more
names_on (x ∷ xs) ys before now after (inl (figs, is, rest)) more =
    inl (figs, is, names_on xs ys (named_by_figs figs before) now after rest more)
names_on (x ∷ xs) ys before now after (inr (fault, wrong, rest)) more =
    inr (fault, wrong, names_on xs ys before now after rest more)

pub piece_named : (s t : List ℕ) (fibs : List (List ℕ)) (now after : Option ℕ) → length s % 32 ≡ 0
    → fibs ≡ fibs_of_stream t → NamesAfter (fibs_of_stream s) None now → NamesAfter fibs now after
    → NamesAfter (fibs_of_stream (s ++ t)) None after
piece_named s t fibs now after whole are before more =
    subst (λ (fs : List (List ℕ)). NamesAfter fs None after) (sym (fibs_on s t whole))
    (names_on (fibs_of_stream s) (fibs_of_stream t) None now after before
    (subst (λ (fs : List (List ℕ)). NamesAfter fs now after) are more))

pub ends_named : (stream : List ℕ) (room : Bool) (heard : Heard) (eid : Option ℕ) → length stream % 32 ≡ 0
    → HearsTheStream (fibs_of_stream stream) unheard (ended room heard)
    → NamesAfter (fibs_of_stream stream) None eid → HearsNamed stream (ended_named room heard eid)
ends_named stream true heard eid whole hears named = ((whole, hears), named)
ends_named stream false heard eid whole hears named = (whole, hears)
