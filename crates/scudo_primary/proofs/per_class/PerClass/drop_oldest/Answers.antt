use Rattle.std.proofs.Common.{◌≡◌, ◌≤◌, ◌+◌, ◌-◌, ◌∙◌, length, take, drop, sym, ap, rules, arith}
use Rattle.std.proofs.lemmas.List.{drop-take, length-drop, length-take-le}
use Rattle.std.proofs.lemmas.List.Edits.{take-paste}
use Rattle.scudo_primary.proofs.per_class.PerClass.drop_oldest.Goals as goal

pub returns : goal.returns
returns c =
    let k = c.args.count in
    let n = c.self.inside.count in
    let blocks = c.self.inside.blocks in
    let room : length blocks ≡ 28 = search rules in
    let held : n ≤ 28 = c.self.invariant in
    let some : k ≤ length c.args.self.now = c.requires.some in
    let t = ap length c.self.view_is in
    let l = length-take-le n blocks (omega arith) in
    let d = length-drop k blocks in
    let zero : n - k ≡ 0 + (n - k) = omega arith in
    let all : k + (n - k) ≡ n = omega arith in
    ap (λ m. take m c.copy_within.new.self) zero ∙ ap (take (0 + (n - k))) c.copy_within.ensures.after
    ∙ take-paste blocks 0 (drop k blocks) (n - k) (omega arith) (omega arith)
    ∙ sym (drop-take k (n - k) blocks) ∙ ap (λ m. drop k (take m blocks)) all ∙ ap (drop k) c.self.view_is
