pub mod MachineAudit
pub mod WrittenCases
