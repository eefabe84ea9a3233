-- The message types of dynamic service messages (CM-SP-MULPIv3.1, 6.4.12 to 6.4.19).
use Rattle.std.specs.Prelude.{ℕ}

-- DSA-REQ (6.4.12): 15
abbrev pub dsa_req : ℕ
dsa_req = 15

-- DSA-RSP (6.4.13): 16
abbrev pub dsa_rsp : ℕ
dsa_rsp = 16

-- DSA-ACK (6.4.14): 17
abbrev pub dsa_ack : ℕ
dsa_ack = 17

-- DSC-REQ (6.4.15): 18
abbrev pub dsc_req : ℕ
dsc_req = 18

-- DSC-RSP (6.4.16): 19
abbrev pub dsc_rsp : ℕ
dsc_rsp = 19

-- DSC-ACK (6.4.17): 20
abbrev pub dsc_ack : ℕ
dsc_ack = 20

-- DSD-REQ (6.4.18): 21
abbrev pub dsd_req : ℕ
dsd_req = 21

-- DSD-RSP (6.4.19): 22
abbrev pub dsd_rsp : ℕ
dsd_rsp = 22
