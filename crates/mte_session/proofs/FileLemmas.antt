-- Files that are read one after another.
use Rattle.std.proofs.Common.{◌≡◌, ℕ, ◌+◌, ◌<◌, ◌≤◌, List, [], ◌∷◌, ◌++◌, length, map, take, drop, get_or}
use Rattle.std.proofs.Common.{Some, None, Ok, Err, Vec, refl, ap, sym, ◌∙◌, append_assoc, arith}
use Rattle.std.proofs.Common.{length-append, length-drop, ◌-◌, inl, inr, Bor}
use Rattle.std.specs.declared.alloc.Global.{Global}
use Rattle.std.proofs.lemmas.List.{append-nil, length-map, map-append, take-append-drop, take_all, take_more}
use Rattle.mte_streams.specs.declared.reading.ReadFault.{ReadFault}
use Rattle.mte_streams.specs.declared.reading.ReadFault.TheVariants as fault
use Rattle.mte_session.specs.Endings.{read_ending, ending_of}
use Rattle.mte_session.specs.Outcomes.{Failed}
use Rattle.mte_session.specs.declared.session.SessionError.{SessionError}
use Rattle.mte_session.specs.declared.session.SessionError.TheVariants as error
use Rattle.mte_streams.specs.Writing.{WriteLog}
use Rattle.mte_session.specs.declared.program.Program.{Program}
use Rattle.mte_session.specs.Runs.{Ran}
use Rattle.mte_session.specs.Reads.{names_of, FileRead, FilesLog, with_reads, after_file, whole_reads, ReadInOrder, ReadSome, StoppedAt, Stopped}

pub with_reads-nil : (log : FilesLog) → with_reads log [] ≡ log
with_reads-nil None = refl
with_reads-nil (Some reads) = ap (λ z. Some z) (append-nil reads)

pub with_reads-more : (log : FilesLog) (xs ys : List FileRead) → with_reads (with_reads log xs) ys ≡ with_reads log (xs ++ ys)
with_reads-more None xs ys = refl
with_reads-more (Some reads) xs ys = ap (λ z. Some z) (append_assoc reads xs ys)

pub whole_reads-end : (ns cs : List (List ℕ)) (n c : List ℕ) → length cs ≡ length ns
    → whole_reads (ns ++ n ∷ []) (cs ++ c ∷ []) ≡ whole_reads ns cs ++ record { name = n; came = Ok c } ∷ []
unfolding whole_reads
whole_reads-end [] [] n c same = refl
whole_reads-end (m ∷ ns) (d ∷ cs) n c same = ap (λ z. record { name = m; came = Ok d } ∷ z) (whole_reads-end ns cs n c (omega arith))
whole_reads-end [] (d ∷ cs) n c same = absurd (omega arith)
whole_reads-end (m ∷ ns) [] n c same = absurd (omega arith)

pub read_none : (log : FilesLog) → ReadInOrder [] [] log log
unfolding whole_reads
read_none log = record { count = refl; log = sym (with_reads-nil log) }

-- The name at a place, after those before it.
pub names_next : {A : Type 0} (f : A → List ℕ) (xs : List A) (i : ℕ) (d : A) → i < length xs
    → map f (take (i + 1) xs) ≡ map f (take i xs) ++ f (get_or xs i d) ∷ []
names_next f xs i d below =
    ap (λ z. map f z) (take_more xs i d below) ∙ map-append f (take i xs) (get_or xs i d ∷ [])

pub names_whole : {A : Type 0} (f : A → List ℕ) (xs : List A) (i : ℕ) → map f xs ≡ map f (take i xs) ++ map f (drop i xs)
names_whole f xs i = ap (λ z. map f z) (sym (take-append-drop i xs)) ∙ map-append f (take i xs) (drop i xs)

pub read_more : {A : Type 0} (old mid new : FilesLog) (f : A → List ℕ) (xs : List A) (i : ℕ) (d : A) (cs : List (List ℕ)) (v : Vec ℕ Global)
    → i < length xs → ReadInOrder (map f (take i xs)) cs old mid → new ≡ after_file mid (f (get_or xs i d)) (Ok v)
    → ReadInOrder (map f (take (i + 1) xs)) (cs ++ v.items ∷ []) old new
read_more old mid new f xs i d cs v below before next =
    rw (names_next f xs i d below) (record {
      count = simp (length-append) (omega arith);
      log = next ∙ ap (λ z. with_reads z (record { name = f (get_or xs i d); came = Ok v.items } ∷ [])) before.log
          ∙ with_reads-more old (whole_reads (map f (take i xs)) cs) (record { name = f (get_or xs i d); came = Ok v.items } ∷ [])
          ∙ ap (λ z. with_reads old z) (sym (whole_reads-end (map f (take i xs)) cs (f (get_or xs i d)) v.items before.count));
    })

pub read_some : {A : Type 0} (old new : FilesLog) (f : A → List ℕ) (xs : List A) (i : ℕ) (cs : List (List ℕ))
    → ReadInOrder (map f (take i xs)) cs old new → ReadSome (map f xs) old new
read_some old new f xs i cs before =
    record { before = map f (take i xs); after = map f (drop i xs); contents = cs; names_are = names_whole f xs i; read = before }

pub stopped_next : {A : Type 0} (old mid new : FilesLog) (f : A → List ℕ) (xs : List A) (i : ℕ) (d : A) (cs : List (List ℕ)) (e : ReadFault)
    → i < length xs → ReadInOrder (map f (take i xs)) cs old mid → new ≡ after_file mid (f (get_or xs i d)) (Err e)
    → StoppedAt (map f xs) e (f (get_or xs i d)) old new
stopped_next old mid new f xs i d cs e below before next = record {
  before = map f (take i xs);
  after = map f (drop (i + 1) xs);
  contents = cs;
  names_are = names_whole f xs (i + 1) ∙ ap (λ z. z ++ map f (drop (i + 1) xs)) (names_next f xs i d below)
      ∙ append_assoc (map f (take i xs)) (f (get_or xs i d) ∷ []) (map f (drop (i + 1) xs));
  count = before.count;
  log = next ∙ ap (λ z. with_reads z (record { name = f (get_or xs i d); came = Err e } ∷ [])) before.log
      ∙ with_reads-more old (whole_reads (map f (take i xs)) cs) (record { name = f (get_or xs i d); came = Err e } ∷ []);
}

pub read_all : {A : Type 0} (old new : FilesLog) (f : A → List ℕ) (xs : List A) (i : ℕ) (cs : List (List ℕ)) → length xs ≤ i
    → ReadInOrder (map f (take i xs)) cs old new → ReadInOrder (map f xs) cs old new
read_all old new f xs i cs above before =
    let whole : take i xs ≡ xs = take_all i xs above in
    rw whole at before

pub stopped_by : (names : List (List ℕ)) (old new : FilesLog) (e : ReadFault) (name : Bor (List ℕ)) → StoppedAt names e name.now old new
    → Stopped names (read_ending e name) old new
stopped_by names old new fault.OutOfMemory name at = inl (record { name = name.now; stopped = at })
stopped_by names old new fault.Read name at = inl at
stopped_by names old new fault.TooLong name at = inr at

-- A list that is not empty has a first element.
pub with_first : {A : Type 0} (f : A → List ℕ) (xs : List A) (d : A) → 1 ≤ length xs
    → map f xs ≡ f (get_or xs 0 d) ∷ map f (drop 1 xs)
with_first f [] d some = absurd (omega arith)
with_first f (x ∷ xs) d some = refl

pub ran_failed : (p : Program) (read_old read_new : FilesLog) (old new : WriteLog) (script : List ℕ) (files : List (List ℕ)) (e : SessionError)
    → ReadInOrder (names_of p.names.items) (script ∷ files) read_old read_new
    → Failed (record { frames = p.frames; files = files; script = script }) old new e
    → Ran p read_old read_new old new (ending_of e)
ran_failed p read_old read_new old new script files (error.Script line e) read failed = record { script = script; files = files; read = read; holds = failed }
ran_failed p read_old read_new old new script files error.Write read failed = record { script = script; files = files; read = read; holds = failed }
ran_failed p read_old read_new old new script files error.OutOfMemory read failed =
    (inr (record { before = names_of p.names.items; after = []; contents = script ∷ files; names_are = sym (append-nil _); read = read }), failed)

pub not_empty : {A B : Type 0} (f : A → List ℕ) (xs : List A) (h : B → List ℕ) (ys : List B) → length (map f xs) ≡ length (map h ys) → 1 ≤ length ys
    → 1 ≤ length xs
not_empty f xs h ys same some =
    let left : length (map f xs) ≡ length xs = length-map xs f in
    let right : length (map h ys) ≡ length ys = length-map ys h in
    omega arith

pub rest_whole : {A : Type 0} (xs ys : List A) → ys ≡ xs → take (length ys - 1) (drop 1 ys) ≡ drop 1 xs
rest_whole xs ys same =
    let long : length (drop 1 ys) ≡ length ys - 1 = length-drop 1 ys in
    take_all (length ys - 1) (drop 1 ys) (omega arith) ∙ ap (λ z. drop 1 z) same
