-- The limits of numbers, counts, file ids, sizes of files, generations and sessions. They are this project's own:
-- libfuse counts lookups in 64 bits. A size is an `off_t`, which has a sign.
use Rattle.std.specs.Prelude.{ℕ, ◌-◌, ◌^◌}

-- how often the kernel may hold one number
abbrev pub greatest_count : ℕ
greatest_count = 2 ^ 63 - 1

-- the number after the last that may be given
abbrev pub end_of_numbers : ℕ
end_of_numbers = 2 ^ 63 - 1

-- the file id after the last that may be given
abbrev pub end_of_files : ℕ
end_of_files = 2 ^ 63 - 1

-- how many bytes a file may have
abbrev pub greatest_size : ℕ
greatest_size = 2 ^ 63 - 1

-- the last generation that the seat may have
abbrev pub last_generation : ℕ
last_generation = 2 ^ 63 - 1

-- the last takeover session that a daemon may begin
abbrev pub last_session : ℕ
last_session = 2 ^ 32 - 1
