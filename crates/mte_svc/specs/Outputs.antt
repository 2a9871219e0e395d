-- The output of a tenant, and how much more it may write.
use Rattle.std.specs.Prelude.{◌≡◌, ℕ, ◌-◌, ◌≤◌, List, vec_len, vec_capacity, refl}
use Rattle.std.specs.Coded.{Coded, code_by, coded×, coded_ℕ, coded_list}
use Rattle.mte_svc.specs.declared.output.Output.TheInside.{Inside}

-- The bytes that a tenant wrote, and how many more it may write.
pub record Written : Type 0 where
  pub bytes : List ℕ
  pub left : ℕ

-- The code of an output, by which proofs distinguish two.
abbrev pub coded_written : Coded Written
coded_written = code_by (List ℕ × ℕ) (coded× (coded_list coded_ℕ) coded_ℕ)
    (λ w. (w.bytes, w.left)) (λ c. record { bytes = c.0; left = c.1 }) (λ _. refl)

-- The output that the code keeps.
abbrev pub written_of : Inside → Written
written_of o = record {
  bytes = o.bytes.items;
  left = o.room - vec_len o.bytes;
}

-- The room of its admission is what the list has memory for, so it never takes more.
pub record IsWithin (o : Inside) : Type 0 where
  pub written : vec_len o.bytes ≤ o.room
  pub room : vec_capacity o.bytes ≡ o.room
