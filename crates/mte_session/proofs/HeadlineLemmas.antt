-- From the law of two sessions to what two calls wrote.
use Rattle.std.proofs.Common.{◌≡◌, ℕ, ◌==◌, Bool, true, false, List, [], ◌∷◌, ◌++◌, Option, Some}
use Rattle.std.proofs.Common.{Result, Ok, Err, OnOk, if◌then◌else◌, refl, ap, sym, ◌∙◌, append_assoc}
use Rattle.std.proofs.lemmas.Bool.{eqb-true}
use Rattle.mte_streams.specs.Writing.{WriteLog, WroteAll}
use Rattle.mte_script.specs.declared.event.Event.{Event}
use Rattle.mte_sched.specs.Lives.{Life, Session, lives, life_among}
use Rattle.mte_sched.specs.Contents.{record_of, tenant_of}
use Rattle.mte_sched.specs.Isolation.{NumbersStay}
use Rattle.mte_session.specs.Sessions.{session_of, session_text, life_text, life_texts}
use Rattle.mte_session.specs.Outcomes.{Input, Reported}
use Rattle.mte_session.specs.Headline.{AgreeFor, Shows, WroteAlike}

-- A part of a text.
pub record Part (text part : List ℕ) : Type 0 where
  pub before : List ℕ
  pub after : List ℕ
  pub whole : text ≡ before ++ (part ++ after)

some_same : {A : Type 0} (x y : A) → Some x ≡ Some y → x ≡ y
some_same x y h = cc

ok_same : {A E : Type 0} (x y : A) → (let r : Result A E = Ok x in r) ≡ Ok y → x ≡ y
ok_same x y h = cc

part_behind : (front text part : List ℕ) → Part text part → Part (front ++ text) part
part_behind front text part h = record { before = front ++ h.before; after = h.after; whole = ap (λ k. front ++ k) h.whole ∙ sym (append_assoc front h.before (part ++ h.after)) }

part_next : (b : Bool) (l : Life) (found : Option Life) (text : List ℕ) (life : Life) → (if b then Some l else found) ≡ Some life
    → (found ≡ Some life → Part text (life_text life)) → Part (life_text l ++ text) (life_text life)
part_next true l found text life h rest = rw (some_same l life h) (let s : Part (life_text life ++ text) (life_text life) = record { before = []; after = text; whole = refl } in s)
part_next false l found text life h rest = part_behind (life_text l) text (life_text life) (rest h)

part_life : (id : ℕ) (ls : List Life) (life : Life) → life_among id ls ≡ Some life → Part (life_texts ls) (life_text life)
part_life id [] life h = cc
part_life id (l ∷ ls) life h = part_next (l.id == id) l (life_among id ls) (life_texts ls) life h (λ k. part_life id ls life k)

session_part : (id : ℕ) (s : Session) (life : Life) → life_among id (lives s) ≡ Some life → Part (session_text s) (life_text life)
unfolding session_text
session_part id s life h = part_behind _ _ _ (part_life id (lives s) life h)

number_next : (id : ℕ) (b : Bool) (l : Life) (found : Option Life) (life : Life) → (l.id == id) ≡ b → (if b then Some l else found) ≡ Some life
    → (found ≡ Some life → life.id ≡ id) → life.id ≡ id
number_next id true l found life e h rest = sym (ap (λ (k : Life). k.id) (some_same l life h)) ∙ eqb-true l.id id e
number_next id false l found life e h rest = rest h

number_among : (id : ℕ) (ls : List Life) (life : Life) → life_among id ls ≡ Some life → life.id ≡ id
number_among id [] life h = cc
number_among id (l ∷ ls) life h = number_next id (l.id == id) l (life_among id ls) life refl h (λ k. number_among id ls life k)

shows : (id : ℕ) (input : Input) (events : List Event) (life : Life) (old new : WriteLog)
    → life_among id (lives (session_of input.frames input.files events)) ≡ Some life
    → WroteAll old new (session_text (session_of input.frames input.files events))
    → Shows (record_of (tenant_of life).held) old new
shows id input events life old new h wrote =
    let part = session_part id (session_of input.frames input.files events) life h in
    record { before = part.before; after = part.after; wrote = rw (← part.whole) wrote }

pub wrote_alike : (stay : NumbersStay) (id : ℕ) (one other : Input) (old1 new1 old2 new2 : WriteLog)
    → Reported one old1 new1 → Reported other old2 new2 → (h : AgreeFor id one other) → WroteAlike id h.agree.life old1 new1 old2 new2
wrote_alike stay id one other old1 new1 old2 new2 r q h =
    let first : h.events ≡ r.events = ok_same h.events r.events (sym h.read ∙ r.read) in
    let second : h.others ≡ q.events = ok_same h.others q.events (sym h.read_other ∙ q.read) in
    record {
      known = record_of (tenant_of h.agree.life).held;
      number = stay h.agree.life ∙ number_among id _ h.agree.life h.agree.one;
      alone = refl;
      one = shows id one h.events h.agree.life old1 new1 h.agree.one (rw first r.wrote);
      other = shows id other h.others h.agree.life old2 new2 h.agree.other (rw second q.wrote);
    }

pub on_ok : {E : Type 0} (r : Result (Unit {0}) E) (P Q : Type 0) → (P → Q) → OnOk r P → OnOk r Q
on_ok (Ok u) P Q f h = f h
on_ok (Err e) P Q f h = h
