-- Reading a code file and spelling a code are inverse.
use Rattle.plan_code.proofs.Words.{[], ◌++◌, ◌+◌, ◌∙◌, ◌∷◌, ◌≡◌, ◌≤◌, AllByRecursion, CodeFault, Configuration, Err}
use Rattle.plan_code.proofs.Words.{Front, Gives, Header, IfOk, IsAscending, IsBytes, IsConfiguration, IsLabel, IsLine}
use Rattle.plan_code.proofs.Words.{IsPlan, IsProgram, Label, List, Ok, Parses, Program, Result, Trailing, ap}
use Rattle.plan_code.proofs.Words.{append-nil, append_assoc, arith, code_bytes, config_bytes, config_in, eqb}
use Rattle.plan_code.proofs.Words.{eqb-true, flat_map, front_then, header_at, header_bytes, label_bytes, label_from}
use Rattle.plan_code.proofs.Words.{label_key, labels_in, length, line, line_bytes, line_in, nil_from_length, not}
use Rattle.plan_code.proofs.Words.{refl, subst, suc, sym, zero, ℕ}
use Rattle.mux_config.proofs.RecordLaws.{record_front, record_again, members_front, members_again}
use Rattle.plan_code.specs.declared.instr.Line.{Line}
use Rattle.plan_code.specs.Parts.{label}
use Rattle.plan_code.specs.Reading.{items_at, program_at, code_of}
use Rattle.plan_code.proofs.PartLaws.{label_is, label_formed, formed_label, line_is}
use Rattle.plan_code.proofs.HeaderLaws.{then_ok, refuse_then, given, given_is, read_ok, ok_read, not_false, IsCount}
use Rattle.plan_code.proofs.HeaderLaws.{IsHeaderRead, header_front, header_again}

-- ---- reading and spelling are inverse on well-formed values

pub record IsParsing {T : Type 0} (read : List ℕ → Parses T) (spell : T → List ℕ) (P : T → Type 0) : Type 0 where
  pub front : (bytes : List ℕ) (x : T × List ℕ) → IsBytes bytes → read bytes ≡ Ok x → Front bytes (spell x.0) x.1
      × P x.0
  pub again : (x : T) (rest : List ℕ) → P x → read (spell x ++ rest) ≡ Ok (x, rest)

-- ---- tables

config_parsing : (total : ℕ) → IsParsing (config_in total) config_bytes IsConfiguration
config_parsing total = record {
  front = λ bytes x fits e. record_front _ _ _ fits (read_ok _ _ _ e);
  again = λ c rest formed. ok_read _ _ _ (record_again _ _ _ formed);
}

line_parsing : (total : ℕ) → IsParsing (line_in total) line_bytes IsLine
line_parsing total = record {
  front = λ bytes x fits e. line_is.front total bytes x fits (read_ok 0 (line.read total bytes) x e);
  again = λ l rest formed. ok_read 0 _ (l, rest) (line_is.again total l rest formed);
}

-- what was read extends `before` by `count` items
pub record AreItemsRead {T : Type 0} (spell : T → List ℕ) (P : T → Type 0) (before : List T) (count : ℕ)
    (bytes : List ℕ) (x : List T × List ℕ) : Type 0 where
  pub more : List T
  pub is : x.0 ≡ before ++ more
  pub front : Front bytes (flat_map spell more) x.1
  pub many : length more ≡ count
  pub formed : AllByRecursion P more

items_front : {T : Type 0} (read : List ℕ → Parses T) (spell : T → List ℕ) (P : T → Type 0) → IsParsing read spell P
    → (before : List T) (count : ℕ) (bytes : List ℕ) (x : List T × List ℕ) → IsBytes bytes
    → items_at read before count bytes ≡ Ok x → AreItemsRead spell P before count bytes x
unfolding items_at
items_front {T} read spell P parsing before zero bytes x fits e =
    subst (λ (y : List T × List ℕ). AreItemsRead spell P before 0 bytes y) (given_is (before, bytes) x e)
    (record {
      more = [];
      is = sym (append-nil before);
      front = record { parts = refl; rest_fits = fits };
      many = refl;
      formed = tt;
    })
items_front read spell P parsing before (suc count) bytes x fits e =
    let l = then_ok (read bytes) (λ item. items_at read (before ++ item.0 ∷ []) count item.1) x e in
    let f = parsing.front bytes l.0 fits l.1 in
    let r = items_front read spell P parsing (before ++ l.0.0 ∷ []) count l.0.1 x f.0.rest_fits l.2 in
    record {
      more = l.0.0 ∷ r.more;
      is = r.is ∙ append_assoc before (l.0.0 ∷ []) r.more;
      front = front_then bytes (spell l.0.0) l.0.1 (flat_map spell r.more) x.1 f.0 r.front;
      many = ap suc r.many;
      formed = (f.1, r.formed);
    }

items_again : {T : Type 0} (read : List ℕ → Parses T) (spell : T → List ℕ) (P : T → Type 0) → IsParsing read spell P
    → (before more : List T) (rest : List ℕ) → AllByRecursion P more
    → items_at read before (length more) (flat_map spell more ++ rest) ≡ Ok (before ++ more, rest)
unfolding items_at
items_again {T} read spell P parsing before [] rest all =
    ap (λ (ls : List T). let y : List T × List ℕ = (ls, rest) in given y) (sym (append-nil before))
items_again {T} read spell P parsing before (l ∷ more) rest all =
    ap (items_at read before (suc (length more))) (append_assoc (spell l) (flat_map spell more) rest)
    ∙ rw (parsing.again l (flat_map spell more ++ rest) all.0)
    (items_again read spell P parsing (before ++ l ∷ []) more rest all.1
    ∙ ap (λ (ls : List T). let y : List T × List ℕ = (ls, rest) in given y) (append_assoc before (l ∷ []) more))

any_place : (xs : List Label) → AllByRecursion (λ l. 0 ≤ label_key l) xs
any_place [] = tt
any_place (x ∷ xs) = (omega arith, any_place xs)

-- ---- the file

-- the tables read match their header
pub record AreTablesRead (h : Header) (bytes : List ℕ) (p : Program) (rest : List ℕ) : Type 0 where
  pub front : Front bytes (flat_map config_bytes p.configurations ++ flat_map label_bytes p.labels
      ++ flat_map line_bytes p.lines) rest
  pub plan : p.plan ≡ h.plan
  pub configuration_count : length p.configurations ≡ h.configurations
  pub label_count : length p.labels ≡ h.labels
  pub line_count : length p.lines ≡ h.lines
  pub configurations : AllByRecursion IsConfiguration p.configurations
  pub labels : AllByRecursion (IsLabel (length p.configurations)) p.labels
  pub ascend : IsAscending label_key p.labels
  pub lines : AllByRecursion IsLine p.lines

none_before : (n m : ℕ) → n ≡ 0 + m → n ≡ m
none_before n m e = omega (arith, e)

-- a table of `count` items, read from the start
record IsRow {T : Type 0} (spell : T → List ℕ) (P : T → Type 0) (count : ℕ) (bytes : List ℕ) (xs : List T)
    (rest : List ℕ) : Type 0 where
  front : Front bytes (flat_map spell xs) rest
  many : length xs ≡ count
  formed : AllByRecursion P xs

is_row : {T : Type 0} (spell : T → List ℕ) (P : T → Type 0) (count : ℕ) (bytes : List ℕ) (xs : List T) (rest : List ℕ)
    → AreItemsRead spell P [] count bytes (xs, rest) → IsRow spell P count bytes xs rest
is_row {T} spell P count bytes xs rest r = rw r.is (record { front = r.front; many = r.many; formed = r.formed })

labels_row : (total count : ℕ) (n : ℕ) (bytes : List ℕ) (ls : List Label) (rest : List ℕ) → IsCount 256 count
    → IsBytes bytes → labels_in total count n bytes ≡ Ok (ls, rest)
    → IsRow label_bytes (IsLabel count) n bytes ls rest × IsAscending label_key ls
unfolding label
labels_row total count n bytes ls rest known fits e =
    let f = members_front label_key label_bytes (IsLabel count) (label_from total count)
    (λ low b x is h. let r = (label_is count low).front total b x is h in
    (r.0, r.1.pc.0, label_formed count low x.0 known.0 r.1))
    0 [] n bytes (ls, rest) fits tt tt tt (read_ok 0 _ (ls, rest) e) in
    let front : Front bytes (flat_map label_bytes ls) rest = subst (λ (t : List ℕ). Front bytes t rest) (sym f.2) f.1 in
    (record { front = front; many = none_before (length ls) n f.3; formed = f.5 }, f.4)

tables_made : (total : ℕ) (h : Header) (b0 b1 b2 b3 : List ℕ) (cs : List Configuration) (ls : List Label)
    (is : List Line) → IsCount 256 h.configurations → IsBytes b0
    → items_at (config_in total) [] h.configurations b0 ≡ Ok (cs, b1)
    → labels_in total h.configurations h.labels b1 ≡ Ok (ls, b2)
    → items_at (line_in total) [] h.lines b2 ≡ Ok (is, b3)
    → AreTablesRead h b0 (record { plan = h.plan; configurations = cs; labels = ls; lines = is }) b3
tables_made total h b0 b1 b2 b3 cs ls is known fits ec el ei =
    let fc = is_row _ _ _ _ _ _ (items_front _ _ _ (config_parsing _) _ _ _ _ fits ec) in
    let fl = labels_row total h.configurations h.labels b1 ls b2 known fc.front.rest_fits el in
    let fi = is_row _ _ _ _ _ _ (items_front _ _ _ (line_parsing _) _ _ _ _ fl.0.front.rest_fits ei) in
    let one = front_then b0 (flat_map config_bytes cs) b1 (flat_map label_bytes ls) b2 fc.front fl.0.front in
    let all = front_then _ _ _ _ _ one fi.front in
    record {
      front = all;
      plan = refl;
      configuration_count = fc.many;
      label_count = fl.0.many;
      line_count = fi.many;
      configurations = fc.formed;
      labels = subst (λ (n : ℕ). AllByRecursion (IsLabel n) ls) (sym fc.many) fl.0.formed;
      ascend = fl.1;
      lines = fi.formed;
    }

tables_front : (total : ℕ) (h : Header) (bytes : List ℕ) (x : Program × List ℕ) → IsCount 256 h.configurations
    → IsBytes bytes → program_at total h bytes ≡ Ok x → AreTablesRead h bytes x.0 x.1
unfolding program_at
tables_front total h bytes x known fits e =
    let c = then_ok (items_at (config_in total) [] h.configurations bytes) _ x e in
    let l = then_ok (labels_in total h.configurations h.labels c.0.1) _ x c.2 in
    let i = then_ok (items_at (line_in total) [] h.lines l.0.1) _ x l.2 in
    let found : Program × List ℕ =
    (record { plan = h.plan; configurations = c.0.0; labels = l.0.0; lines = i.0.0 }, i.0.1) in
    rw (← given_is found x i.2) (tables_made total h bytes c.0.1 l.0.1 i.0.1 c.0.0 l.0.0 i.0.0 known fits c.1 l.1 i.1)

-- what was read is a code, and the bytes are its file
pub record IsCodeRead (bytes : List ℕ) (p : Program) : Type 0 where
  pub spelled : bytes ≡ code_bytes p
  pub formed : IsProgram p

same_count : (n m limit : ℕ) → n ≡ m → IsCount limit m → IsCount limit n
same_count n m limit e is = subst (λ (k : ℕ). IsCount limit k) (sym e) is

code_made : (bytes b1 b2 : List ℕ) (h : Header) (p : Program) → IsHeaderRead bytes h b1 → AreTablesRead h b1 p b2
    → length b2 ≡ 0 → IsCodeRead bytes p
code_made bytes b1 b2 h p header tables ended =
    let configurations = flat_map config_bytes p.configurations in
    let labels = flat_map label_bytes p.labels in
    let lines = flat_map line_bytes p.lines in
    let head : Front bytes (header_bytes p.plan (length p.configurations) (length p.labels) (length p.lines)) b1 =
    rw (tables.plan, tables.configuration_count, tables.label_count, tables.line_count) header.front in
    let whole = front_then _ _ _ _ _ head tables.front in
    let grouped : header_bytes p.plan (length p.configurations) (length p.labels) (length p.lines)
    ++ (configurations ++ labels ++ lines) ≡ code_bytes p =
    sym (append_assoc (header_bytes p.plan (length p.configurations) (length p.labels) (length p.lines)
    ++ configurations) labels lines
    ∙ append_assoc (header_bytes p.plan (length p.configurations) (length p.labels) (length p.lines)) configurations
    (labels ++ lines)
    ∙ ap (λ (t : List ℕ). header_bytes p.plan (length p.configurations) (length p.labels) (length p.lines) ++ t)
    (sym (append_assoc configurations labels lines))) in
    let configuration_count = same_count _ _ 256 tables.configuration_count header.configurations in
    let label_count = same_count _ _ 1024 tables.label_count header.labels in
    let line_count = same_count _ _ 4096 tables.line_count header.lines in
    record {
      spelled = whole.parts ∙ ap
          (λ (r : List ℕ). header_bytes p.plan (length p.configurations) (length p.labels) (length p.lines)
          ++ (configurations ++ labels ++ lines) ++ r) (nil_from_length b2 ended)
          ∙ append-nil (header_bytes p.plan (length p.configurations) (length p.labels) (length p.lines)
          ++ (configurations ++ labels ++ lines)) ∙ grouped;
      formed = record {
        planned = subst IsPlan (sym tables.plan) header.planned;
        configurations_from = configuration_count.0;
        configurations_to = configuration_count.1;
        configurations_formed = tables.configurations;
        labels_from = label_count.0;
        labels_to = label_count.1;
        labels_formed = tables.labels;
        labels_ascend = tables.ascend;
        lines_from = line_count.0;
        lines_to = line_count.1;
        lines_formed = tables.lines;
      };
    }

pub code_front : (bytes : List ℕ) (p : Program) → IsBytes bytes → code_of bytes ≡ Ok p → IsCodeRead bytes p
unfolding code_of
code_front bytes p fits e =
    let h = then_ok (header_at (length bytes) bytes) _ p e in
    let fh = header_front (length bytes) bytes h.0 fits h.1 in
    let t = then_ok (program_at (length bytes) h.0.0 h.0.1) _ p h.2 in
    let ft = tables_front (length bytes) h.0.0 h.0.1 t.0 fh.configurations fh.front.rest_fits t.1 in
    let z = refuse_then (not (eqb (length t.0.1) 0)) Trailing (λ ended. given t.0.0) p t.2 in
    rw (← given_is t.0.0 p z.1) (code_made bytes h.0.1 t.0.1 h.0.0 t.0.0 fh ft (eqb-true _ _ (not_false _ z.0)))

-- ---- spelling and reading again

labels_again : (total count : ℕ) (ls : List Label) (rest : List ℕ) → count ≤ 256 → AllByRecursion (IsLabel count) ls
    → IsAscending label_key ls
    → labels_in total count (length ls) (flat_map label_bytes ls ++ rest) ≡ Ok (ls, rest)
unfolding label
labels_again total count ls rest few all up =
    ok_read 0 _ (ls, rest) (members_again label_key label_bytes (IsLabel count) (label_from total count)
    (λ low l more is from. (label_is count low).again total l more (formed_label count low l few is from)) 0 [] ls
    rest up (any_place ls) all)

abbrev header_of : Program → Header
header_of p = record {
  plan = p.plan;
  configurations = length p.configurations;
  labels = length p.labels;
  lines = length p.lines;
}

tables_again : (total : ℕ) (p : Program) (rest : List ℕ) → IsProgram p
    → program_at total (header_of p) (flat_map config_bytes p.configurations
    ++ (flat_map label_bytes p.labels ++ (flat_map line_bytes p.lines ++ rest))) ≡ Ok (p, rest)
unfolding program_at
tables_again total p rest is =
    let b2 : List ℕ = flat_map line_bytes p.lines ++ rest in
    let b1 : List ℕ = flat_map label_bytes p.labels ++ b2 in
    rw (
      items_again (config_in total) config_bytes IsConfiguration (config_parsing total) [] p.configurations b1
          is.configurations_formed,
      labels_again total (length p.configurations) p.labels b2 is.configurations_to is.labels_formed is.labels_ascend,
      items_again (line_in total) line_bytes IsLine (line_parsing total) [] p.lines rest is.lines_formed,
    ) refl

parted : (p : Program) → code_bytes p ≡ header_bytes p.plan (length p.configurations) (length p.labels) (length p.lines)
    ++ (flat_map config_bytes p.configurations
    ++ (flat_map label_bytes p.labels ++ (flat_map line_bytes p.lines ++ [])))
parted p =
    let h : List ℕ = header_bytes p.plan (length p.configurations) (length p.labels) (length p.lines) in
    let c = flat_map config_bytes p.configurations in
    let l = flat_map label_bytes p.labels in
    let i = flat_map line_bytes p.lines in
    cc (append_assoc (h ++ c) l i, append_assoc h c (l ++ i), append-nil i)

whole_again : (bytes : List ℕ) (p : Program) → IsProgram p
    → bytes ≡ header_bytes p.plan (length p.configurations) (length p.labels) (length p.lines)
    ++ (flat_map config_bytes p.configurations
    ++ (flat_map label_bytes p.labels ++ (flat_map line_bytes p.lines ++ []))) → code_of bytes ≡ Ok p
unfolding code_of
whole_again bytes p is e =
    let rest : List ℕ = flat_map config_bytes p.configurations
    ++ (flat_map label_bytes p.labels ++ (flat_map line_bytes p.lines ++ [])) in
    let head : header_at (length bytes) bytes ≡ Ok (header_of p, rest) =
    ap (λ (b : List ℕ). header_at (length bytes) b) e
    ∙ header_again (length bytes) (header_of p) rest is.planned (is.configurations_from, is.configurations_to)
    (is.labels_from, is.labels_to) (is.lines_from, is.lines_to) in
    rw (head, tables_again (length bytes) p [] is) refl

pub code_again : (p : Program) → IsProgram p → code_of (code_bytes p) ≡ Ok p
code_again p is = whole_again (code_bytes p) p is (parted p)

-- ---- one reader after the other

-- the readings of a file, each by a reader that continues where the previous one ended
pub read_in_turn : (bytes b0 b1 b2 b3 b4 : List ℕ) (t0 t1 t2 t3 : ℕ) (h : Header) (cs : List Configuration)
    (ls : List Label) (is : List Line)
    → b0 ≡ bytes → t0 ≡ length bytes → t1 ≡ t0 → t2 ≡ t1 → t3 ≡ t2
    → header_at t0 b0 ≡ Ok (h, b1) → items_at (config_in t1) [] h.configurations b1 ≡ Ok (cs, b2)
    → labels_in t2 h.configurations h.labels b2 ≡ Ok (ls, b3)
    → items_at (line_in t3) [] h.lines b3 ≡ Ok (is, b4) → length b4 ≡ 0
    → code_of bytes ≡ Ok (record { plan = h.plan; configurations = cs; labels = ls; lines = is })
unfolding code_of program_at
read_in_turn bytes b0 b1 b2 b3 b4 t0 t1 t2 t3 h cs ls is start all s1 s2 s3 rh rc rl ri ended =
    let e1 : t1 ≡ length bytes = s1 ∙ all in
    let e2 : t2 ≡ length bytes = s2 ∙ e1 in
    let qh : header_at (length bytes) bytes ≡ Ok (h, b1) =
    subst (λ (b : List ℕ). header_at (length bytes) b ≡ Ok (h, b1)) start
    (subst (λ (t : ℕ). header_at t b0 ≡ Ok (h, b1)) all rh) in
    let ql = subst (λ (t : ℕ). labels_in t h.configurations h.labels b2 ≡ Ok (ls, b3)) e2 rl in
    let qi = subst (λ (t : ℕ). items_at (line_in t) [] h.lines b3 ≡ Ok (is, b4)) (s3 ∙ e2) ri in
    rw (qh, (subst (λ (t : ℕ). items_at (config_in t) [] h.configurations b1 ≡ Ok (cs, b2)) e1 rc), ql, qi, ended) refl

-- ---- results of calls

pub found_so : (bytes : List ℕ) (r : Result Program CodeFault) → IsBytes bytes
    → Gives (λ (p : Program). p) r (code_of bytes) → IfOk r (λ p. bytes ≡ code_bytes p)
found_so bytes (Ok p) fits given = (code_front bytes p fits given).spelled
found_so bytes (Err e) fits given = tt

pub formed_so : (bytes : List ℕ) (r : Result Program CodeFault) → IsBytes bytes
    → Gives (λ (p : Program). p) r (code_of bytes) → IfOk r (λ p. IsProgram p)
formed_so bytes (Ok p) fits given = (code_front bytes p fits given).formed
formed_so bytes (Err e) fits given = tt

pub read_so : (bytes : List ℕ) (r : Result Program CodeFault) (p : Program) → IsProgram p → bytes ≡ code_bytes p
    → Gives (λ (q : Program). q) r (code_of bytes) → Gives (λ (q : Program). q) r (Ok p)
read_so bytes r p is e given = rw (← ap code_of e ∙ code_again p is) given

pub written_again : {V E : Type 0} (items : V → List ℕ) (r : Result V E) (p : Program) → IsProgram p
    → IfOk r (λ v. items v ≡ code_bytes p) → IfOk r (λ v. code_of (items v) ≡ Ok p)
written_again items (Ok v) p is spelled = ap code_of spelled ∙ code_again p is
written_again items (Err e) p is spelled = tt
