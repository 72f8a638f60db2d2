-- The keywords of the grammar have different letters.
use Rattle.script_tokens.proofs.Words.{[], ◌++◌, ◌<◌, ◌∙◌, ◌∷◌, ◌≡◌, ◌≢◌, Address, Apply, At, Audio, Begin, Bool}
use Rattle.script_tokens.proofs.Words.{Budget, Carry, CloseBrace, Closed, Commit, Component, Contact, Data, Define}
use Rattle.script_tokens.proofs.Words.{Drop, Early, Eep, Else, End, Ensemble, Forever, Groups, If, IfSome, In}
use Rattle.script_tokens.proofs.Words.{IsNoKeyword, Join, Keyword, List, Mode, Move, None, Notice, Open, OpenBrace}
use Rattle.script_tokens.proofs.Words.{Option, Or, Packet, Period, Rate, Raw, Repeat, Reserve, Service, Settle, Some}
use Rattle.script_tokens.proofs.Words.{Spelled, Sub, Time, To, TypeWord, Until, Wait, all_ascii_digits, ap, arith}
use Rattle.script_tokens.proofs.Words.{bytes_eq, bytes_eq-Decides, decimal, digits_decimal, false, false≢true, keywords}
use Rattle.script_tokens.proofs.Words.{And, Overlay, Schedule, While}
use Rattle.script_tokens.proofs.Words.{level_text, lexeme_among, refl, subst, sym, text, the, true, ℕ}
use denote.Enum.Bare.{sameb}
use denote.Enum.Declared.{tag_of}
use Rattle.std.specs.Cmp.{nat_eq_equiv}
use Rattle.script_tokens.specs.contracts.keyword.Keyword.{the_type}
use Rattle.script_tokens.specs.Keywords.{IsNoneOf, change_keywords, flow_keywords, head_keywords, item_keywords}
use Rattle.script_tokens.specs.Keywords.{letters, packet_keywords, schedule_keywords, wait_keywords, word_of}
use Rattle.script_tokens.proofs.Digits.{own}

pub word_the : (k : Keyword) → word_of (letters k) ≡ the k
unfolding letters word_of
word_the Ensemble = refl
word_the Mode = refl
word_the Period = refl
word_the Notice = refl
word_the Budget = refl
word_the Reserve = refl
word_the Define = refl
word_the Begin = refl
word_the Schedule = refl
word_the Overlay = refl
word_the While = refl
word_the And = refl
word_the Sub = refl
word_the At = refl
word_the Eep = refl
word_the Service = refl
word_the Audio = refl
word_the In = refl
word_the Data = refl
word_the Carry = refl
word_the Packet = refl
word_the Groups = refl
word_the Raw = refl
word_the TypeWord = refl
word_the Address = refl
word_the Drop = refl
word_the Component = refl
word_the Move = refl
word_the Rate = refl
word_the Wait = refl
word_the Contact = refl
word_the Closed = refl
word_the Open = refl
word_the Until = refl
word_the Early = refl
word_the Or = refl
word_the Time = refl
word_the To = refl
word_the Commit = refl
word_the Join = refl
word_the Settle = refl
word_the End = refl
word_the If = refl
word_the Else = refl
word_the Repeat = refl
word_the Forever = refl
word_the Apply = refl
word_the OpenBrace = refl
word_the CloseBrace = refl

the_injective : (j k : Keyword) → the j ≡ the k → j ≡ k
the_injective j k e = cc

pub letters_injective : (j k : Keyword) → letters j ≡ letters k → j ≡ k
letters_injective j k e = the_injective j k (sym (word_the j) ∙ ap word_of e ∙ word_the k)

-- the first tokens of equal lists, and the rests
pub first_is : (v w : List ℕ) (vs ws : Spelled) → v ∷ vs ≡ w ∷ ws → v ≡ w
first_is v w vs ws e = cc

-- ---- bytes that are not a keyword

false_if : (b : Bool) → (b ≡ true → ⊥) → b ≡ false
false_if true h = absurd (h refl)
false_if false h = refl

none_among : (ks : List Keyword) (w : List ℕ) → IsNoKeyword w → lexeme_among ks w ≡ text w
none_among [] w h = refl
none_among (k ∷ ks) w h = let e = false_if (bytes_eq w (letters k)) (λ f. h k ((bytes_eq-Decides w (letters k)).0 f)) in
    rw (e) (none_among ks w h)

pub word_text : (w : List ℕ) → IsNoKeyword w → word_of w ≡ text w
unfolding word_of
word_text w h = none_among keywords w h

pub no_decimal : (k : Keyword) (n : ℕ) → n < 1000000000 → all_ascii_digits (letters k) ≡ false → decimal n ≢ letters k
no_decimal k n small none e =
    false≢true (sym none ∙ (subst (λ (w : List ℕ). all_ascii_digits w ≡ true) e (digits_decimal own n (omega arith))))

-- a keyword is equal to itself
pub itself : (j k : Keyword) → Some j ≡ Some k → sameb the_type j k ≡ false → ⊥
itself j k e f =
    let same : j ≡ k = cc in
    false≢true (sym f ∙ subst (λ (x : Keyword). sameb the_type j x ≡ true) same (nat_eq_equiv.refl (tag_of the_type j)))

pub found_of : (r : Option Keyword) (w : List ℕ) → IfSome r (λ k. w ≡ letters k) → (r ≡ None → IsNoKeyword w)
    → (k : Keyword) → w ≡ letters k → r ≡ Some k
found_of None w h none k e = absurd (none refl k e)
found_of (Some j) w h none k e = ap Some (letters_injective j k (sym h ∙ e))

-- bytes that spell no keyword of any subject spell no keyword
both_none : (js ks : List Keyword) (w : List ℕ) → IsNoneOf js w → IsNoneOf ks w → IsNoneOf (js ++ ks) w
both_none [] ks w h k = k
both_none (j ∷ js) ks w h k = (h.0, both_none js ks w h.1 k)

not_among : (ks : List Keyword) (w : List ℕ) → IsNoneOf ks w → lexeme_among ks w ≡ text w
not_among [] w h = refl
not_among (k ∷ ks) w h =
    rw ((false_if (bytes_eq w (letters k)) (λ f. h.0 ((bytes_eq-Decides w (letters k)).0 f)))) (not_among ks w h.1)

pub no_keyword : (w : List ℕ) → IsNoneOf head_keywords w → IsNoneOf schedule_keywords w → IsNoneOf item_keywords w
    → IsNoneOf packet_keywords w → IsNoneOf change_keywords w → IsNoneOf wait_keywords w → IsNoneOf flow_keywords w
    → IsNoKeyword w
unfolding word_of
no_keyword w head schedule item packet change wait flow k e =
    let late = both_none wait_keywords flow_keywords w wait flow in
    let changes = both_none change_keywords (wait_keywords ++ flow_keywords) w change late in
    let packets = both_none packet_keywords (change_keywords ++ (wait_keywords ++ flow_keywords)) w packet changes in
    let body = packet_keywords ++ (change_keywords ++ (wait_keywords ++ flow_keywords)) in
    let items = both_none item_keywords body w item packets in
    let schedules = both_none schedule_keywords (item_keywords ++ body) w schedule items in
    let none = both_none head_keywords (schedule_keywords ++ (item_keywords ++ body)) w head schedules in
    let other : the k ≡ text w = sym (word_the k) ∙ ap word_of (sym e) ∙ not_among keywords w none in
    absurd cc

-- ---- levels of contacts

pub no_level : (lexemes : Spelled) → ((rest : Spelled) → lexemes ≢ letters Closed ∷ rest)
    → ((rest : Spelled) → lexemes ≢ letters Open ∷ rest) → (closed : Bool) (rest : Spelled)
    → lexemes ≢ level_text closed ∷ rest
no_level lexemes g r true rest e = g rest e
no_level lexemes g r false rest e = r rest e

pub one_level : (b c : Bool) → level_text b ≡ level_text c → b ≡ c
one_level true false e = let same = letters_injective Closed Open e in absurd cc
one_level false true e = let same = letters_injective Open Closed e in absurd cc
one_level _ _ e = refl
