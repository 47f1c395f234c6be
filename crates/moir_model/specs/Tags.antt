-- "The tag has sixteen bits and goes from 65,535 back to 0" (02, CR 8). Figure 6's ⊕ 1 and ⊖ 1 wrap with it.
use Rattle.std.specs.Prelude.{ℕ, ◌+◌, ◌%◌}

-- how many tags there are
abbrev pub tag_values : ℕ
tag_values = 65536

-- t ⊕ 1
abbrev pub next_tag : ℕ → ℕ
next_tag t = (t + 1) % tag_values

-- t ⊖ 1
abbrev pub previous_tag : ℕ → ℕ
previous_tag t = (t + 65535) % tag_values
