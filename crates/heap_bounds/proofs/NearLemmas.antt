-- Remembered bytes of live chunks.
use Rattle.std.proofs.Common.{arith, ℕ, ◌≡◌, ◌∙◌, ◌+◌, ◌<◌, ◌≤◌, List, get_or, set, subst, sym}
use Rattle.std.proofs.Math.Logic.{∥∥₁_map, ∥∥₁_map₂}
use Rattle.std.proofs.lemmas.List.{length-set}
use Rattle.std.proofs.lemmas.List.Elements.{All-weaker, All-set, All-get_or}
use Rattle.heap_bounds.specs.KeptChunks.{KeptChunks}
use Rattle.heap_bounds.specs.LiveBytes.{AreLive}
use Rattle.heap_bounds.specs.NearBytes.{IsOfLive, AreOfLive, AreNone}
use Rattle.heap_bounds.specs.declared.live_bytes.LiveBytes.{LiveBytes}

-- Nothing is remembered.
pub none-near : (k : KeptChunks) (near : List LiveBytes) → AreNone near → ∥ AreOfLive k near ∥₁
none-near k near h = ∣ record {
  places = h.places;
  each = All-weaker (λ r. r.len ≡ 0) (IsOfLive k) (λ r e some. absurd (omega (arith, some, e))) near h.each;
} ∣₁

-- One more is remembered.
pub set-near : (k now : KeptChunks) (near : List LiveBytes) (i : ℕ) (r : LiveBytes) → k ≡ now
    → ∥ AreOfLive k near ∥₁ → ∥ IsOfLive now r ∥₁ → ∥ AreOfLive k (set near i r) ∥₁
set-near k now near i r e h live =
    let here : ∥ IsOfLive k r ∥₁ = subst (λ k. ∥ IsOfLive k r ∥₁) (sym e) live in
    ∥∥₁_map₂ h here (λ a b. record {
      places = length-set near i r ∙ a.places;
      each = All-set (IsOfLive k) near i r b a.each;
    })

-- A remembered one.
pub at-near : (k now : KeptChunks) (near : List LiveBytes) (i : ℕ) (d : LiveBytes) → k ≡ now
    → ∥ AreOfLive k near ∥₁ → i < 128 → ∥ IsOfLive now (get_or near i d) ∥₁
at-near k now near i d e h l =
    subst (λ k. ∥ IsOfLive k (get_or near i d) ∥₁) e
    (∥∥₁_map h (λ a. let p = a.places in All-get_or (IsOfLive k) near i d (omega (arith, l, p)) a.each))

-- Bytes within remembered ones are a live chunk's.
pub live-near : (k : KeptChunks) (r : LiveBytes) (first bytes : ℕ) → ∥ IsOfLive k r ∥₁
    → 0 < r.len → r.start ≤ first → first + bytes ≤ r.start + r.len → ∥ AreLive k first bytes ∥₁
live-near k r first bytes h some from to = ∥∥₁_map h (λ live. record {
  start = r.start;
  end = r.start + r.len;
  chunk = live some;
  from = from;
  to = to;
})
